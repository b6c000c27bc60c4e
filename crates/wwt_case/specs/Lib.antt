pub mod Plan
pub mod Files
pub mod Programs
pub mod Case
pub mod Reading
