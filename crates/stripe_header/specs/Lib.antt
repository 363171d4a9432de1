pub mod Layout
pub mod Spelling
pub mod Reading
pub mod Accepted
pub use Rattle.sha2.specs.Sha256
pub use Rattle.tape_base.specs.Place
pub use Rattle.tape_base.specs.Limits
