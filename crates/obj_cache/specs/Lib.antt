pub mod Held
pub mod RegistersKept
pub mod Sets
pub mod LinesKept
pub mod Leaving
pub mod Shown
pub mod Step
pub mod Commands
