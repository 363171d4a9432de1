pub mod Choice
pub use Rattle.tape_base.specs.Piece
