pub mod Rendering
