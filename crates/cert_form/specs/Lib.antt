pub mod Certificates
pub mod Written
pub mod Code
