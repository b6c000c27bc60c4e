pub mod PlanLemmas
pub mod ReadLemmas
pub mod ProgramLemmas
pub mod ImageLemmas
pub mod CaseLemmas
pub mod Ranges
