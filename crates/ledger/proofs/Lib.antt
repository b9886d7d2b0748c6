pub mod HistoryLaws
pub mod MarkLaws
pub mod WindowLaws
