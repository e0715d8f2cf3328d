pub mod Held
pub mod History
pub mod Moved
pub mod Past
pub mod Serials
pub mod Traced
