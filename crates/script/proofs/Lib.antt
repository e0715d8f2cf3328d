pub mod Consoles
pub mod Hearing
pub mod OneAnswer
pub mod Opening
pub mod Origins
pub mod Standing
pub mod Stopping
