-- What mirrors the code.
pub mod Given
