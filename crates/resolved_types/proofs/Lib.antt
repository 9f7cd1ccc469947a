pub mod SameScopes
pub mod Resolution
pub mod ResolvedTyping
pub mod ResolvedSources
