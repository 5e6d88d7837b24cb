pub mod Packed
pub mod Listing
