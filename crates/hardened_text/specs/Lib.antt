pub mod Texts
pub mod Private
