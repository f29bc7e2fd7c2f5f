pub mod RamLaws
pub mod BlockLaws
pub mod SegmentLemmas
pub mod WrittenLaws
