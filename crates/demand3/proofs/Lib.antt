pub mod Crown
pub mod Heights
pub mod Roles
pub mod Rich
pub mod Open
pub mod Demand3
pub mod Parts
pub mod Wrong
