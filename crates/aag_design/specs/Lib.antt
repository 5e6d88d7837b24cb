pub mod Draft
pub mod Counts
pub mod Loop
pub mod Same
pub mod Read
pub mod ReadBack
pub mod Private
