pub mod AllNovel
pub mod FreedLogs
pub mod PickedInstances
pub mod OfferSearches
pub mod Seeking
pub mod MarkedCells
pub mod FirstTries
pub mod RaisedTrails
