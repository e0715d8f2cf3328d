pub mod Doors
pub mod Exchanges
pub mod Looks
pub mod Replies
pub mod Sessions
pub mod Told
pub mod Views
