pub mod Handles
pub mod NotedBytes
pub mod Serves
pub mod Steps
pub mod Waiters
