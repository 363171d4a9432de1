pub mod Touched
pub mod Stages
pub mod Passes
pub mod Syncs
pub mod Writings
pub mod Others
