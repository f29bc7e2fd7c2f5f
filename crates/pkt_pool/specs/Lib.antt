pub mod Packet
pub mod Pooled
