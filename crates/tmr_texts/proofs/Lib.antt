pub mod TextLaws
pub mod ReplayTextLaws
