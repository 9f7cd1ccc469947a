pub mod Tokens
pub mod Grammar
pub mod Texts
pub mod Written
pub mod Code
