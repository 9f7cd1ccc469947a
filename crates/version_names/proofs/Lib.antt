mod TableLaws
mod StatusLaws
mod MergedLaws
pub mod PartLaws
