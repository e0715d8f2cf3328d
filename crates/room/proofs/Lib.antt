pub mod ArgLemmas
pub mod StreamLemmas
