pub mod OneStep
pub mod Steps
pub mod Views
