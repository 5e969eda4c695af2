pub mod Plug
pub mod Counting
pub mod Search
pub mod Mirror
pub mod Held
pub mod OneTree
