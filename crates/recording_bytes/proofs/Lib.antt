pub mod FewBytes
pub mod Steps
pub mod WrongFields
pub mod FixedEvents
pub mod ShortEvents
pub mod Events
pub mod Spelled
pub mod Loops
pub mod Written
mod Examples
