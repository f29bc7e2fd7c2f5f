pub mod WaitingLemmas
pub mod HandleLemmas
pub mod LayerLemmas
pub mod StayLemmas
pub mod StepLemmas
pub mod SideLemmas
pub mod GivenLemmas
