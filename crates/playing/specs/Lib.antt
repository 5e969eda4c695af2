pub mod Text
pub mod Turn
