mod Rendering
mod Laying
