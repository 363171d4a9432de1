mod Rowed
mod Sparing
mod Doings
mod Ready
mod Switched
mod Asked
mod Making
pub mod Between
pub mod Continuing
pub mod Stills
