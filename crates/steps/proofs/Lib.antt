pub mod Lent
pub mod Body
pub mod ZonePart
pub mod Kept
pub mod Segments
pub mod Zones
pub mod Outcomes
