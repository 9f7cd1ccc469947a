pub mod Due
pub mod Seen
pub mod Sets
