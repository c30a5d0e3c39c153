pub mod Asked
pub mod Fates
pub mod Passes
pub mod Slack
pub mod Laws
pub mod Reasons
