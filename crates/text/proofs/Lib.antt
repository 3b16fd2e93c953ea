pub mod Walks
pub mod Numerals
pub mod Cuts
pub mod Puts
pub mod Lines
pub mod Begins
pub mod Fronts
