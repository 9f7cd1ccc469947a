pub mod Walked
pub mod Composed
pub mod CountLaws
mod Examples
