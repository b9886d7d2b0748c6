pub mod Element
pub mod Field
