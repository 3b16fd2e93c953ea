mod Copies
mod Tops
