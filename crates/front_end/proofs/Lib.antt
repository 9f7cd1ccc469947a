pub mod ConditionLemmas
pub mod PointLemmas
pub mod TypedTextLemmas
pub mod WorldLemmas
pub mod PartLemmas
