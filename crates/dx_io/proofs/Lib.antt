pub mod FaultLemmas
pub mod NumberLemmas
pub mod ToldLemmas
