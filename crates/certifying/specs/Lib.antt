pub mod Causes
pub mod Certified
pub mod Finest
pub mod Least
pub mod Lines
pub mod Private
