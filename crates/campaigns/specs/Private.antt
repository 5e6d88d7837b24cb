pub mod Running
pub mod Seeking
