pub mod AnswerLaws
pub mod ChunkLaws
pub mod InputLaws
pub mod ScanLaws
pub mod ServeLaws
pub mod TurnLaws
