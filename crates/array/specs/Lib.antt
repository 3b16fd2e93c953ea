pub mod Limits
pub mod Arrays
pub mod Steps
pub mod Plans
