pub mod WordLaws
pub mod DashLaws
pub mod LineLaws
