pub mod Machine
pub mod History
pub mod Ledger
pub mod Fares
