pub mod MergeLaws
