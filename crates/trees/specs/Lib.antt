pub mod Tree
pub mod Rank
pub mod Order
pub mod Count
pub mod Marks
pub mod Ways
