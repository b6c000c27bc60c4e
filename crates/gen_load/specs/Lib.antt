pub mod Assembly
pub mod Generated
pub mod Lines
pub mod Listings
