pub mod Numbers
pub mod Designs
pub mod Schedules
pub mod Strikes
pub mod Drawing
pub mod NearSchedules
pub mod Members
pub mod NearDrawing
