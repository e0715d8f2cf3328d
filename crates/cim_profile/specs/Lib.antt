pub mod Facts
pub mod FirstBreak
pub mod MarkKind
pub mod Places
pub mod Rule
pub mod Subject
pub mod Table
pub mod Walk
