pub mod Counted
pub mod Laws
pub mod Meant
pub mod Replays
pub use Rattle.code_replies.specs.DoesAs
