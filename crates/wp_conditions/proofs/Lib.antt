pub mod GrowingLaws
pub mod EdgeLaws
pub mod StepLaws
pub mod SeenLaws
pub mod WalkLaws
pub mod FunctionLaws
pub mod WholeLaws
