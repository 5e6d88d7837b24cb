pub mod Below
pub mod Cost
pub mod Sizes
pub mod Refining
pub mod Reads
pub mod Private
