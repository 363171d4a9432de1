pub mod Histories
pub mod Orders
