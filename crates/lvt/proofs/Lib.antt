mod Halves
mod Marking
