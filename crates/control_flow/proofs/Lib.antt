pub mod NodeLaws
pub mod GraphLaws
pub mod NodeCounts
pub mod AllCounts
pub mod Passed
