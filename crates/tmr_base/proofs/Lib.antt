pub mod NumberLaws
pub mod NameLaws
