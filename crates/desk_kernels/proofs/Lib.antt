pub mod Alone
pub mod Seen
mod Held
mod Turned
mod Lending
mod Played
