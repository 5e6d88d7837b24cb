pub mod Texts
pub mod Help
pub mod Reasons
pub mod FormText
pub mod ReplayText
