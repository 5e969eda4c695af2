pub mod Demand3
pub mod Longest
pub mod Wrong
