pub mod Items
pub mod Spread
pub mod OneBucket
pub mod Gathering
pub mod Places
