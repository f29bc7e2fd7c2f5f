pub mod Net
pub mod MemoryView
pub mod System
pub mod MemoryLaws
pub mod Ways
pub mod Machine
pub mod Runs
pub mod Laws
