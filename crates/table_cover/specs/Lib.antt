pub mod Cover
pub mod Rows
pub mod Pushing
pub mod Words
pub mod Sharing
