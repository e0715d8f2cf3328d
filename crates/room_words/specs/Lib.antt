pub mod Acts
pub mod Differences
pub mod Firsts
pub mod Items
pub mod Overlay
pub mod Terms
pub mod TraceText
