pub mod Bits
pub mod Ends
mod Lanes
mod NextWords
