-- Definitions that mirror the code.
pub mod ExpressionReading
pub mod ParseSteps
pub mod Seen
pub mod SideReading
