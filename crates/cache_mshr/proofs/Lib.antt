pub mod RegistersLemmas
pub mod KeptLemmas
pub mod CallLemmas
