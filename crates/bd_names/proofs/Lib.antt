pub mod CutsLemmas
pub mod NamesLaws
