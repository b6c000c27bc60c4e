pub mod Text
pub mod EventLine
pub mod Merged
