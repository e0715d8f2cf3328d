pub mod FaultLaws
mod InputLaws
pub mod NoteLaws
mod ShelfReads
pub mod SinkLaws
