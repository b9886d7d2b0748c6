pub mod AgainLaws
pub mod LentLaws
pub mod LocalsLaws
pub mod WalkLaws
