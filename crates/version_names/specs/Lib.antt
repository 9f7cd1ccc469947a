pub mod Parts
pub mod Merged
pub mod Code
pub mod Home
pub mod Links
pub mod Provenance
pub mod Version
