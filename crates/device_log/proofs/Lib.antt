pub mod Spans
pub mod Puts
pub mod SeenLaws
pub mod ReadLaws
pub mod LeftLaws
pub mod CallLaws
pub mod FlipLaws
pub mod FaultLaws
pub mod LogLemmas
pub mod StreamLemmas
pub mod StreamLaws
mod Worked
