pub mod Counting
pub mod Pins
pub mod Seeing
pub mod Wanting
pub mod KeyPairs
pub mod Naming
