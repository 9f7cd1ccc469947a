pub mod Counts
pub mod Pieces
pub mod Named
pub mod MemFiles
pub mod MemSink
pub mod DiskFiles
