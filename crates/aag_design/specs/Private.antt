pub mod Drafting
pub mod Small
