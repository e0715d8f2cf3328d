pub mod Answers
pub mod Lines
pub mod Played
pub mod Rehearsal
pub mod Staging
pub mod Turns
