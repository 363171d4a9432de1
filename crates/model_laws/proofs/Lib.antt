pub mod Asked
pub mod Backed
pub mod Among
pub mod Listed
mod Purged
mod Below
mod Possible
mod Tried
pub mod CountedRecords
pub mod Counted
pub mod Quiet
pub mod Digests
pub mod DigestSteps
mod Calm
mod Chosen
pub mod BackedFlush
mod FixedFlush
mod Faithful
mod AgreeingSteps
pub mod Undisplaced
pub mod Purging
pub mod TriedFlush
mod WorkedFlush
mod ReadPairs
