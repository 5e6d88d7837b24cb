pub mod Two
pub mod Starts
pub mod Windows
pub mod Masked
pub mod Laws
pub mod Voters
pub mod OutputLaws
pub mod Nodes
