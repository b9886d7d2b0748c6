pub mod Answers
pub mod Input
pub mod Kept
pub mod Reading
pub mod Records
pub mod Remembered
