pub mod Truth
pub mod Changed
pub mod Binding
pub mod Unbound
