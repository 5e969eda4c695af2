pub mod Fares
pub mod Read
