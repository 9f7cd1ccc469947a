pub mod Allowed
pub mod Listing
pub mod Seeking
