pub mod FileEye
