pub mod Document
pub mod Entries
pub mod Gives
pub mod Private
pub mod Reading
pub mod Schedule
pub mod View
