pub mod KnownCopies
