-- Definitions that mirror the code.
pub mod SeenMeans
pub mod SeenScopes
