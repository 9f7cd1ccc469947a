pub mod StatementTurns
pub mod StatementComplete
pub mod StatementSound
pub mod BlockLaws
