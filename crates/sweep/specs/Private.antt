pub mod Reaching
pub mod Counting
pub mod Written
