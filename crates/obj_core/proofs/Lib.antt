pub mod OutboxLemmas
pub mod FlowLemmas
pub mod StepLemmas
