mod Turns
mod Leaves
mod Tells
mod Parses
mod Glue
