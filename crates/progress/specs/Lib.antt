pub mod Work
pub mod Tally
pub mod Alone
pub mod Restarts
pub mod Budget
pub mod Panel
pub mod Stale
