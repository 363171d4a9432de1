mod Following
mod Staying
mod Comparing
mod Giving
mod Looking
mod Beginning
mod Choosing
mod Harmless
mod Nexts
pub mod Owning
mod Counted
