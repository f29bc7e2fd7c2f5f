pub mod Examples
pub mod RunEnds
