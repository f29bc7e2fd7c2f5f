pub mod Line
pub mod Held
pub mod Stored
pub mod Kept
pub mod Store
