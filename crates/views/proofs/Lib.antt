pub mod Law
pub mod Inside
