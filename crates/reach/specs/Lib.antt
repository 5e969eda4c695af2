pub mod Tree
pub mod Down
pub mod Writing
