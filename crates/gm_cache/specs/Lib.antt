pub mod State
pub mod Rule
pub mod Lines
pub mod Example
