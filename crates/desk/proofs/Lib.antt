pub mod Legal
pub mod Receipts
pub mod Holdings
pub mod Queues
pub mod Counting
pub mod Serials
