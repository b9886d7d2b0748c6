pub mod CryptAtLaws
pub mod HeldLaws
pub mod PieceLaws
pub mod SixteenLaws
