pub mod Limits
pub mod Slots
pub mod RegFiles
pub mod Steps
pub mod Ports
pub mod Plans
