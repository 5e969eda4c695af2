pub mod Joins
pub mod Rows
pub mod Entry
pub mod Sweep
pub mod Lines
pub mod Grown
