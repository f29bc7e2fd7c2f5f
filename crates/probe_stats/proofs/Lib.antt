pub mod OneMore
pub mod StatsLemmas
