mod Examples
pub mod Histories
pub mod Reasons
pub mod Orders
pub mod Drained
pub mod Unplaced
pub mod Standing
mod Numbered
pub mod Uniques
mod Risings
mod Takings
mod Accepting
mod Made
mod Emptying
mod Clearing
mod Counting
pub mod Growing
pub mod Numbers
pub mod Since
pub mod Held
pub mod InOrder
pub mod HeldByNumber
pub mod Peaks
pub mod Waiting
pub mod RisingLanes
pub mod Freeing
pub mod NextCycles
