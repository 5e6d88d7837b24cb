pub mod Guard
pub mod Tells
pub mod Answer
pub mod Making
