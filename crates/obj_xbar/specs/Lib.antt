pub mod Waiting
pub mod Lane
pub mod Ports
pub mod Shown
pub mod Side
pub mod Stays
