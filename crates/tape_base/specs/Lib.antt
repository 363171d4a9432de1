pub mod Key
pub mod Piece
pub mod Digest
pub mod Blocks
pub mod Limits
pub mod Geometry
pub mod Place
pub use Rattle.sha2.specs.Sha256
