pub mod Engine
pub mod Rounds
pub mod Quantum
pub mod Inboxes
pub mod Heads
pub mod Sole
