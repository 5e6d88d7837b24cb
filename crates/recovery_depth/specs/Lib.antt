pub mod Walks
pub mod Depths
pub mod Extra
pub mod Hardened
pub mod Chains
pub mod Least
pub mod Private
