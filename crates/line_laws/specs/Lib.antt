pub mod Given
pub mod Along
pub mod Laws
pub mod Actors
