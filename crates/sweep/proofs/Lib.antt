pub mod ReachLaws
pub mod OwnPaths
pub mod HardenedPaths
pub mod CountLaws
pub mod SweepLaws
