mod Halves
mod Pairs
