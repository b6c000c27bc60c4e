pub mod BlockLaws
pub mod KeyLaws
pub mod NodeSetLaws
