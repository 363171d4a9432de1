pub mod Document
pub mod Reading
pub mod Moving
pub use Rattle.sha2.specs.Sha256
pub use Rattle.tape_base.specs.Key
pub use Rattle.tape_base.specs.Blocks
pub use Rattle.tape_base.specs.Digest
