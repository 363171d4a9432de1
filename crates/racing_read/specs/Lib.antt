pub mod RaceCalls
pub mod RaceLog
pub mod Races
pub mod RaceLaws
