pub mod Device
pub mod Served
pub mod ServedBy
pub mod Server
