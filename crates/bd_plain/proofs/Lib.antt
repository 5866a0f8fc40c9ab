pub mod PathOrder
pub mod EntryPlaces
pub mod TreeViews
pub mod RefusalOrder
pub mod RestBelow
