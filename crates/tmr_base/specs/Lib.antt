pub mod Copies
pub mod Names
pub mod Numbers
pub mod Parts
pub mod Bytes
pub mod Hashing
