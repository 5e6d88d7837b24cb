pub mod BadLine
pub mod Faults
pub mod Private
