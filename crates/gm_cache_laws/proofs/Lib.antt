pub mod CachePorts
pub mod CacheParts
pub mod Caches
