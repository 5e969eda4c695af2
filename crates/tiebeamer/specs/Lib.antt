pub mod Interface
pub mod Asked
pub mod Numbers
