pub mod CutLines
pub mod WordLemmas
pub mod ReadLemmas
pub mod LineLaws
pub mod GeneratedLemmas
pub mod OneLine
pub mod GeneratedShort
