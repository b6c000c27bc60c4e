pub mod Start
pub mod Parts
