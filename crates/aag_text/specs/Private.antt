pub mod Gates
pub mod Nets
pub mod Puts
