pub mod Rows
pub mod Tables
pub mod Turns
pub mod Fronts
pub mod Sole
pub mod Counts
