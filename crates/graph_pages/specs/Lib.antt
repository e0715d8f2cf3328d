pub mod Graph
pub mod Keyed
pub mod Buckets
pub mod Fold
pub mod Size
pub mod Walks
