pub mod Linked
pub mod UpdatingRun
pub mod Worlds
pub mod Rules
pub mod Machines
pub mod Code
