pub mod Walk
pub mod Breaks
pub mod Destinations
pub mod Literals
pub mod SourceNames
pub mod Sources
