pub mod Pushes
pub mod Pieces
pub mod Copying
pub mod Load
pub mod Units
pub mod Calls
