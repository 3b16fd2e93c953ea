pub mod Faults
pub mod Texts
pub mod Writing
pub mod Trips
