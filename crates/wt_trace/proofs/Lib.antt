pub mod Walks
pub mod StableSorts
pub mod Permuted
pub mod MergeLaws
pub mod EventLaws
