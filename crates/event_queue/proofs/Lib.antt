pub mod RisingLaws
pub mod MapLaws
pub mod MergeLaws
pub mod MarkLaws
pub mod CycleLaws
