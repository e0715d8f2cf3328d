pub mod Entries
pub mod Reading
pub mod Replies
pub mod Requests
pub mod Room
pub mod Values
pub mod Words
