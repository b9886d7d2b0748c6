pub mod Message
