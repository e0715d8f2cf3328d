mod Histories
pub mod KeptBack
pub mod Sending
