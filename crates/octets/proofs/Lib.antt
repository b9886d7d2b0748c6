pub mod BlockLaws
pub mod BytesLaws
pub mod ElementsLaws
pub mod Tested
pub mod XorLaws
