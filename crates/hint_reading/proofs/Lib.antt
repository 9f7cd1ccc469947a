pub mod DemandLaws
pub mod FitLaws
pub mod ReadingLaws
