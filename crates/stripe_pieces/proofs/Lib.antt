mod Telling
mod Told
mod Readied
mod LiveBehind
mod ToldCopies
mod Looked
mod Adding
mod GoneOn
mod Copied
mod Pushing
mod Puts
mod KeptRows
pub mod Standing
pub mod VectorsListed
mod StandingPlaced
pub mod Fitting
mod Payloads
mod Findings
mod ReadAhead
