pub mod FileLemmas
mod LawsBelow
mod OneBase
