-- What private functions alone cite.
pub mod Spelled
pub mod Lines
pub mod Pieces
pub mod Steps
