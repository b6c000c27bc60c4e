pub mod Numbers
pub mod Declarations
pub mod Words
pub mod Workers
