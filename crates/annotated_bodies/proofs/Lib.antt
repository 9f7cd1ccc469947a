pub mod LevelLaws
pub mod PlaceLaws
pub mod BodyLaws
