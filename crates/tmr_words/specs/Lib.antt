pub mod Campaigns
pub mod FileWords
pub mod Line
pub mod Topics
pub mod TrialWords
pub mod Trials
pub mod Words
pub mod Private
