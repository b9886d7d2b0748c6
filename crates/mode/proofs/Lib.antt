pub mod ModeLaws
pub mod OpenLaws
pub mod TagLaws
