pub mod AnsweredLines
pub mod Parts
pub mod Served
