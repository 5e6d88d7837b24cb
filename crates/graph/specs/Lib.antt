pub mod Rows
pub mod Lists
pub mod Search
pub mod Orders
pub mod Sorted
pub mod Readers
pub mod Turned
pub mod Private
