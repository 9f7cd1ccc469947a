-- The list as it is made from the front.
pub mod Walk
