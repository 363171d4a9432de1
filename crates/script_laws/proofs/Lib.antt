pub mod Among
mod Losses
mod Standing
pub mod Groups
pub mod Walking
mod Said
mod Faults
mod Damages
mod Runs
mod Counts
mod Sessions
mod TurnTroubles
pub mod Formats
pub mod Devices
mod Alike
pub mod Parting
mod Agreeing
mod Recorded
mod Vectors
