pub mod Full
pub mod Indexed
pub mod Inside
pub mod LivePieces
pub mod Tables
pub mod TapeTable
pub mod Weight
