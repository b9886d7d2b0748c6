pub mod CutLaws
pub mod DifferLaws
pub mod EmptyLaws
pub mod MessageLaws
pub mod RunLaws
