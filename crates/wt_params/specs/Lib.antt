pub mod Mesh
pub mod Machine
pub mod Fields
