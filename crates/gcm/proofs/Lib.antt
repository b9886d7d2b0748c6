pub mod PromiseLaws
pub mod SealLaws
pub mod Theorems
