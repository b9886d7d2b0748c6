pub mod HexLaws
pub mod LineLaws
