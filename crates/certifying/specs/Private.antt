-- What private functions alone speak of. No public contract rests on it.
pub mod Bare
pub mod Forests
pub mod Numbers
pub mod Labels
pub mod Depths
pub mod Found
pub mod Renumbered
pub mod Refined
