pub mod SyncLaws
pub mod MarkLaws
pub mod PayloadLaws
pub mod ForgetLaws
pub use Rattle.step_laws.specs.AskLaws
