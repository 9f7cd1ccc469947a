pub mod DueLaws
mod Examples
