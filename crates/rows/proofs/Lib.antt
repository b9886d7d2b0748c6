pub mod LengthLaws
pub mod RowsLaws
