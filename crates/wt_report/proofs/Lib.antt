pub mod Appends
pub mod CountLemmas
pub mod RegisterLemmas
pub mod StationLemmas
pub mod TextLemmas
pub mod TraceLaws
pub mod TraceLemmas
pub mod TraceOrder
