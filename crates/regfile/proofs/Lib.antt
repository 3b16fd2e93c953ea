mod Stores
mod Helds
mod Frees
mod Clears
mod Edges
