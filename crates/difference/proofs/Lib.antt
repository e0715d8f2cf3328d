pub mod HeadingLines
pub mod LineSteps
pub mod OneDocument
pub mod Results
pub mod Sizes
pub mod WrittenDocument
