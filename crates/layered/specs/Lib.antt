pub mod Layered
pub mod Plans
