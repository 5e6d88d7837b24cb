pub mod Pieces
pub mod Found
