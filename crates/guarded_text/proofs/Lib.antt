pub mod Rows
pub mod CopyPuts
pub mod FlatText
pub mod Stepping
pub mod Steps
pub mod Wholes
