pub mod Squeezed
pub mod Adding
pub mod Handed
pub mod Segments
