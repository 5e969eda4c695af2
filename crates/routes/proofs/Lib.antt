pub mod Level
pub mod Swap
pub mod Kept
pub mod Surgery
