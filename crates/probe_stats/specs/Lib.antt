pub mod Counted
pub mod Shown
pub mod Stats
pub mod Trace
pub use Rattle.gm_words.specs.Counts
pub use Rattle.gm_words.specs.Platform
