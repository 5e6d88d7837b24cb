pub mod FirstBad
pub mod Masking
pub mod NodeRules
pub mod Place
pub mod Sides
