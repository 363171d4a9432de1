pub mod Index
pub mod Table
