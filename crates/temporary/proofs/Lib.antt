pub mod Alone
pub mod Apart
pub mod Ascending
pub mod Counts
pub mod Tests
pub mod Whole
