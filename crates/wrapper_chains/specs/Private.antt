-- Definitions for the functions of this crate and of `hierarchy`: no public call of `hierarchy` speaks of them.
pub mod Placed
pub mod Ways
