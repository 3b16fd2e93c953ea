mod Rendering
