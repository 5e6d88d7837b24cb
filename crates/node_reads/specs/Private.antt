pub mod Logged
pub mod Marking
pub mod Dealt
