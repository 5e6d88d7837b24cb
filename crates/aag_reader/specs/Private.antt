pub mod Found
pub mod Sections
pub mod Words
