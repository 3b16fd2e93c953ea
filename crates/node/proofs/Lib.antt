pub mod Stacking
pub mod Sole
