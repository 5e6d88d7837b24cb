pub mod Reasons
pub mod Words
pub mod Explained
pub mod Lines
pub mod Private
