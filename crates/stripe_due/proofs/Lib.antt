mod Awaited
mod Passing
