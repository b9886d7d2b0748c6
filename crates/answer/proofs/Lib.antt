pub mod DoneLaws
pub mod NumberLaws
