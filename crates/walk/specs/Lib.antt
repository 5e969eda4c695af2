pub mod Arrived
pub mod Inside
pub mod Reads
pub mod Stopped
