pub mod Wires
pub mod Ports
pub mod Lines
