pub mod Levels
pub mod MarkLists
pub mod Rising
pub mod CutLemmas
pub mod Together
pub mod Counting
pub mod Placing
pub mod OneList
