pub mod Bytes
pub mod DigestLaw
mod LowBytes
pub mod NameLaws
