mod Found
pub mod AskedLemmas
pub mod FaultLemmas
pub mod GrowthLemmas
pub mod WriteLemmas
