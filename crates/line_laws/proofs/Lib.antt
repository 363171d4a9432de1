pub mod PutEnds
pub mod PutCourse
pub mod Beside
pub mod Keeping
pub mod Asking
mod Pieces
pub mod Fronts
pub mod Nexts
pub mod Nones
pub mod Lines
pub mod Running
mod Writing
mod Shown
pub mod Stands
pub mod Standing
pub mod Firsts
pub mod Since
