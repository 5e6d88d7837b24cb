pub mod Places
pub mod Edges
pub mod Groups
pub mod Picture
pub mod Private
