pub mod Number
pub mod Sentence
pub mod Values
