pub mod Telling
pub mod Laboratories
pub mod Refusals
pub mod Answers
