pub mod Arrays
pub mod Going
pub mod LineLists
pub mod ManyLists
pub mod Performed
