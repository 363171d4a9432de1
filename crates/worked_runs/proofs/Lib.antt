mod Keys
mod Missed
pub mod PutIn
mod Gotten
pub mod Readings
pub mod Along
pub mod Script
pub mod Tells
mod Fine
mod Sentences
mod Whole
