pub mod Same
pub mod Inverse
pub mod Writing
pub mod Examples
pub mod Own
pub mod Rule
pub mod Walking
