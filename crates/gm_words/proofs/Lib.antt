pub mod QueueLaws
pub mod CountLaws
pub mod PortLemmas
