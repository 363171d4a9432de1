pub mod Held
pub mod Displaced
pub mod Records
pub mod Whereabouts
pub mod This
pub mod Still
