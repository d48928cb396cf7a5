pub mod IdleReplies
pub mod TopFloors
pub mod NextScenarios
pub mod OfferProposals
pub mod FloorProposals
pub mod LaterSessions
pub mod Ordered
