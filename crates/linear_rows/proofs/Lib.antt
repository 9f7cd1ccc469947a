pub mod Ring
pub mod SumLaws
pub mod MergeLaws
pub mod FormLaws
pub mod CombinationLaws
