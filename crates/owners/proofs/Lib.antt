pub mod Bound
pub mod Events
