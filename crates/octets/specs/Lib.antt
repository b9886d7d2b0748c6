pub mod Block
pub mod Bytes
pub mod Word
