pub mod Assembly
pub mod RoleSteps
pub mod Rooms
pub mod Pushing
pub mod Building
