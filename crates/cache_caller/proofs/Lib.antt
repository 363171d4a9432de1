pub mod Fed
pub mod Over
pub mod Pieces
