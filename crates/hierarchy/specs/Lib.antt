pub mod Drafted
pub mod Clash
pub mod Private
pub mod Flatten
pub mod Laws
pub mod Sizes
