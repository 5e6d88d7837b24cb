pub mod Text
pub mod At
