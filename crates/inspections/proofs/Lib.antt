pub mod Opening
pub mod Copying
pub mod Answering
pub mod Checking
