mod Agreement
mod Distinct
mod Entries
mod Follow
mod Joined
mod Lines
mod Made
mod Spots
