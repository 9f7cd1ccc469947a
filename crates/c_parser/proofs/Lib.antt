pub mod UnitComplete
pub mod UnitSound
pub mod UnitLaws
pub mod UnitTurns
pub mod ParsedLaws
pub mod WrittenLaws
pub mod TextLaws
pub mod OpenBrackets
