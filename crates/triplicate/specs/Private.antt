-- What private functions alone cite.
pub mod Noted
pub mod Places
pub mod Chosen
