pub mod Numbered
pub mod Rows
pub mod Kept
pub mod Closing
pub mod InStep
pub mod Refusing
pub mod Telling
