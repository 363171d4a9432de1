pub mod Counted
pub mod Writing
pub mod MemoryLemmas
pub mod Moments
pub mod FileLemmas
pub mod GoingOn
