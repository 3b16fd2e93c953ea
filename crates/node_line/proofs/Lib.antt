pub mod Rows
pub mod Rendering
