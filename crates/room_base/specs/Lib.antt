pub mod Base
pub mod Files
pub mod Refusal
pub mod RefusalLine
pub mod Refusing
pub mod Status
