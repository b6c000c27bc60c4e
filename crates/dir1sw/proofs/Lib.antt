pub mod FitsLaws
pub mod VersionOneLaws
