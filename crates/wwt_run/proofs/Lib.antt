pub mod LineLemmas
pub mod AnswerLemmas
pub mod RefusedLemmas
pub mod RunLemmas
pub mod ThreadLemmas
pub mod SilentLemmas
