pub mod Table
pub mod Answers
pub mod Numbers
pub mod Images
pub mod Description
