pub mod TooNear
pub mod Counts
pub mod Nets
pub mod NearPairs
pub mod Text
pub mod Private
