pub mod Changing
pub mod Annotated
pub mod Annotating
pub mod Wp
pub mod Sorts
pub mod Conditions
pub mod Counted
pub mod Code
