pub mod Sources
pub mod Seen
pub mod Places
pub mod Code
