pub mod PlaceLaws
pub mod LineLaws
pub mod FlatLaws
pub mod SetLaws
pub mod CachedLaws
pub mod KeptLaws
pub mod CacheLaws
