pub mod InPieces
pub mod Steps
