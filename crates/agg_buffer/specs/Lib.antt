pub mod Buffer
pub use Rattle.tape_base.specs.Limits
pub use Rattle.tape_base.specs.Place
