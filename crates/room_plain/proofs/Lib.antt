pub mod AnswerLemmas
pub mod LawsBelow
pub mod OneAnswer
pub mod OneCommand
pub mod TraceLemmas
