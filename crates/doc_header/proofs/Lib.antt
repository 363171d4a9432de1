pub mod Stands
pub mod ReadingLaws
pub mod MovingLaws
pub mod SameCopies
