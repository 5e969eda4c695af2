pub mod Weights
pub mod Moves
pub mod Acts
