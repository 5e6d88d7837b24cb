pub mod Text
pub mod Left
pub mod Marks
pub mod Model
pub mod NetOf
pub mod Length
