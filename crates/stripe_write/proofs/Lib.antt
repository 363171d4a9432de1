mod Counted
pub mod Ended
pub mod Flushed
pub mod Spending
mod Pushed
pub mod Cutting
mod Gathering
mod CallsRefused
mod Reaching
mod LastCut
pub mod Completing
mod Sealing
mod Keeping
mod CutsStay
mod ToldPieces
mod ToldClosed
mod Roomed
mod WeighingReads
mod WeighingFits
pub mod LastSteps
pub mod Owning
pub mod Faulted
