pub mod LinkLaws
pub mod MergedNames
pub mod Lookups
pub mod MergedTables
pub mod AddedNames
pub mod MainLaws
