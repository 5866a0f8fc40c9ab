mod Put
pub mod NumberLemmas
pub mod ReadingLemmas
pub mod EncodingLemmas
pub mod TextLemmas
pub mod WritingLemmas
pub mod Zeros
