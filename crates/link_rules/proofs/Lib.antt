pub mod LineTerms
pub mod MemberLists
pub mod Passes
pub mod SpokeLists
