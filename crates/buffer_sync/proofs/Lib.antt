pub mod Last
pub mod Writing
pub mod Buffered
pub mod Standing
pub mod Holding
