mod Entries
pub mod Followers
mod Halves
mod Indexed
mod LeastNext
pub mod Rising
pub mod Standing
