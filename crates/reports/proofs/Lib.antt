pub mod CountLaws
pub mod WordLaws
pub mod LineLaws
pub mod ChainLaws
pub mod LoopCounts
