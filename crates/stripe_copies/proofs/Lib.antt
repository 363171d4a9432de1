mod Going
pub mod Copy
pub mod Calls
