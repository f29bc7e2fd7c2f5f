pub mod Registers
pub mod Serves
pub mod State
