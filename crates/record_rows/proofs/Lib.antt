mod Blocks
mod Ends
mod WorkedSessions
mod AcceptedSteps
