pub mod Words
pub mod Tokens
pub mod Fields
pub mod Verbs
pub mod Grammar
pub mod Texts
