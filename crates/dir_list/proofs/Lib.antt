pub mod ListLaws
pub mod RisingLaws
pub mod KnownLaws
