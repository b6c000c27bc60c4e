pub mod Images
pub mod Faults
pub mod Loading
pub mod Inside
pub mod Examples
