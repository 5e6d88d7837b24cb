pub mod Puts
pub mod Spelled
pub mod LineKinds
pub mod Told
