pub mod Submits
