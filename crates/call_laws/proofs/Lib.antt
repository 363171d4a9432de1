pub mod Grown
pub mod Accounts
pub mod Joined
pub mod Served
pub mod Known
pub mod Groups
pub mod Kept
pub mod Whole
pub mod Backed
mod Asking
mod Example
mod Tries
