pub mod Before
pub mod Working
pub mod Turns
pub mod Jobs
pub mod Taking
pub mod Ending
pub mod Printing
pub mod Commands
