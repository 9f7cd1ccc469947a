pub mod Subjects
pub mod Meaning
pub mod Demands
pub mod Reading
pub mod Code
