pub mod WalkLaws
pub mod DistanceLaws
pub mod PointLaws
