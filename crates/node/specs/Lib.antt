pub mod Limits
pub mod Nodes
pub mod Faults
pub mod Plans
pub mod Stacks
