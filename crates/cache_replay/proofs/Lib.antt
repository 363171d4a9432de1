mod ActorLines
mod ActorReads
mod ActorWriters
mod BareLines
mod Beginnings
mod Closings
mod Counts
pub mod Dispatch
mod DoneLine
mod Fed
mod FeedEnds
mod FeedRefused
mod FeedTurns
mod FeedWhole
mod Formats
mod Frames
mod Free
mod GivingBack
mod NextLine
mod OnPart
mod OnSession
mod OpenLine
mod Openings
pub mod Order
mod OtherNext
pub mod Outlines
mod Plain
mod PlainTurns
mod PutEnds
mod PutLine
mod PutOpens
mod PutWhole
mod PutsGrown
mod ReaderLines
mod ReadsOn
mod Stood
mod SwitchLines
mod ToldFrom
mod ToldWriters
pub mod Unharming
mod WholeGets
mod WholeLines
mod WholeReads
mod WriterSteps
