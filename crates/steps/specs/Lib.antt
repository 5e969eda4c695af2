pub mod Trail
pub mod Does
