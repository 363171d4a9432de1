pub mod PlaceLaws
pub mod StepLaws
pub mod PairLaws
pub mod VectorLaws
pub mod AskLaws
