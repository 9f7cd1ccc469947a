pub mod SeparatedTurns
pub mod OperatorLaws
pub mod ExpressionTurns
pub mod ExpressionComplete
pub mod ExpressionSound
pub mod SeparatedLaws
pub mod SideComplete
pub mod SideSound
