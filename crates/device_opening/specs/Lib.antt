pub mod Copies
pub mod Faults
pub mod Kept
pub mod Opening
pub mod Tape
