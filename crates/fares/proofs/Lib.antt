pub mod Lists
pub mod Changes
pub mod Formed
pub mod Reached
pub mod Whole
pub mod Tidied
