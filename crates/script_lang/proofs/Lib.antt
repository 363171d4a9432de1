pub mod Numbers
pub mod Cut
pub mod Joined
pub mod WrittenWords
pub mod WrittenFields
pub mod ReadAgain
pub mod OneLine
mod WorkedLines
