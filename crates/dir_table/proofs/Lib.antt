pub mod Numbers
pub mod Linked
pub mod Parts
pub mod Trails
pub mod RowLists
pub mod Sharing
pub mod Plainly
