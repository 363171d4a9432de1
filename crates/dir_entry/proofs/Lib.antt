pub mod Classes
pub mod RoundTrip
pub mod Words
