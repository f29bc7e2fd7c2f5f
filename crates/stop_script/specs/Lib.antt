pub mod Stop
pub mod Script
pub mod Lines
