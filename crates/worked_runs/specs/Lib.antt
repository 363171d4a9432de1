pub mod Script
pub mod Steps
pub mod History
pub mod Told
pub mod Sentences
pub mod Whole
