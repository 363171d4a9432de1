pub mod Counts
pub mod Acts
pub mod Unharmed
pub mod Numbers
pub mod Faults
pub mod Named
