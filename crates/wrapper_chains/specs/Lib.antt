pub mod Bare
pub mod SameFlat
pub mod Private
