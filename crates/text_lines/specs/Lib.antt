pub mod Lines
pub mod Joined
pub mod Pending
pub mod Tokens
