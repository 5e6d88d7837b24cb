-- What private functions alone cite.
pub mod Layouts
pub mod Made
pub mod Built
