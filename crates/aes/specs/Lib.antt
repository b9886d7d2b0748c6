pub mod Cipher
pub mod Under
