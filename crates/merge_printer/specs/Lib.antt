pub mod Expressions
pub mod Statements
pub mod Programs
pub mod Heights
pub mod Printable
pub mod Checked
