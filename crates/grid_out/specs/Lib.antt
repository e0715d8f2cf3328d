pub mod Door
pub mod Faults
pub mod Files
pub mod Link
pub mod Notes
pub mod Shelf
pub mod Sink
