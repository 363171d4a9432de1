pub mod JobSteps
pub mod Lanes
pub mod Read
