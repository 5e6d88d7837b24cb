pub mod RunLaws
pub mod SeekLaws
