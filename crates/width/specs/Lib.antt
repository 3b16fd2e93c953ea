pub mod Width
pub mod Words
pub mod Tidy
pub mod Edges
