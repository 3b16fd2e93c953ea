pub mod Depth
pub mod Tidy
pub mod Edges
