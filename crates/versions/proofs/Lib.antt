pub mod Agreeing
pub mod BetweenThreads
pub mod Counting
pub mod OneJudgement
pub mod OneNetwork
pub mod Sound
pub mod TraceLemmas
