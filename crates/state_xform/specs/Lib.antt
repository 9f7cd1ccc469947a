pub mod Paths
pub mod Elements
pub mod Visible
pub mod Transformers
pub mod Refusals
pub mod Kept
pub mod Code
