pub mod Loops
pub mod Gathering
pub mod Numbering
pub mod SelfReads
