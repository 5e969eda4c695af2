pub mod Built
pub mod Changes
pub mod Counts
pub mod Readings
pub mod Structure
