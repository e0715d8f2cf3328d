pub mod CheckText
pub mod Command
pub mod Contents
pub mod Ending
pub mod Run
