pub mod Domains
pub mod Documents
pub mod Kept
pub mod Places
pub mod Members
pub mod Listing
pub mod Steps
