pub mod Denied
pub mod Judgement
