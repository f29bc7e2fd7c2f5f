pub mod Field
pub mod Header
pub mod Segment
pub mod Image
pub mod Ram
pub mod WrittenPages
pub mod Loading
pub mod Written
