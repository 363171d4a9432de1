pub mod Moments
pub mod Progress
pub mod Happens
pub mod Untold
pub mod Serves
pub mod Whole
pub mod Backed
pub mod Laws
