pub mod WordEye
pub mod WordDisk
