pub mod ElementLaws
pub mod FieldLaws
pub mod SumLaws
