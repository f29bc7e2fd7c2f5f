pub mod Outputs
pub mod Arena
pub mod Files
pub mod Sure
pub mod Emissions
pub mod InOrder
pub mod Lines
