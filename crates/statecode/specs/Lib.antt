pub mod Code
pub mod Own
pub mod Walking
pub mod Lent
