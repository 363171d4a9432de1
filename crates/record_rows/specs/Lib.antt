pub mod Worked
pub mod Rows
pub mod Steps
pub mod Unlike
pub mod Limit
