pub mod NearLaws
pub mod CountLaws
pub mod Bounds
pub mod LineLaws
pub mod NetLaws
pub mod SoMany
pub mod NearCounts
