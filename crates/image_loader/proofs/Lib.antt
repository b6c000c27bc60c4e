mod Outside
pub mod Served
