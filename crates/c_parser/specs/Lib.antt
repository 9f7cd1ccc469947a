pub mod Code
pub mod Texts
