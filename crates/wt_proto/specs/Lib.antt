pub mod KeyOrder
pub mod Blocks
pub mod Messages
pub mod NodeSets
