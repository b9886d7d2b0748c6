pub mod DeterminedLaws
