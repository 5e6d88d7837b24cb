-- Definitions for the functions of this crate and of `hierarchy`: no public call of `hierarchy` speaks of them.
pub mod Names
pub mod Rows
pub mod Growth
pub mod Survey
pub mod Models
pub mod Entries
pub mod Counts
pub mod Looked
