pub mod Consoles
pub mod Legal
pub mod Receipts
pub mod Ends
pub mod Follows
pub mod Held
