pub mod Calm
pub mod Records
pub mod Memory
pub mod Safe
pub mod NoDamage
