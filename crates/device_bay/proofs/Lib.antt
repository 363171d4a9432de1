mod Walks
pub mod BayLemmas
pub mod Names
