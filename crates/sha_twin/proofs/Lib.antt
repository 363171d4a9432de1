mod Lanes
mod Turns
