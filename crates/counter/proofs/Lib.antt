pub mod CounterLaws
pub mod CryptLaws
pub mod InputsLaws
