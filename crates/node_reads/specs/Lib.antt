pub mod Reading
pub mod Noting
pub mod Sources
pub mod Private
