pub mod CountLaws
pub mod PlaceLaws
pub mod EdgeLaws
pub mod MeetLaws
pub mod GroupLaws
pub mod LineLaws
pub mod BoxLaws
