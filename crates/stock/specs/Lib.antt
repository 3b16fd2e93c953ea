pub mod Faults
pub mod Lines
pub mod Stocks
pub mod Texts
pub mod Needs
