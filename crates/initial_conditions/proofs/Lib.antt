pub mod NumberLaws
pub mod ElementLaws
pub mod ArrayLaws
