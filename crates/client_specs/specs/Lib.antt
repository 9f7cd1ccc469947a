pub mod Kinds
pub mod Visible
pub mod Spelled
pub mod Starts
pub mod Clients
pub mod Refusals
pub mod Kept
pub mod Code
