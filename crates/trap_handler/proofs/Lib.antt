pub mod TrapLaws
