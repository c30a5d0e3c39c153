mod Rows
mod RecordingRows
pub mod Laws
pub mod Settings
pub mod Next
pub mod Made
mod Handing
mod Moves
mod LogLines
mod LogOrder
mod LogExamples
mod Submitted
mod Quiet
mod Ticked
mod Cycled
mod Asked
mod Waited
mod AskedEdges
mod Edges
pub mod OutputsDecided
mod Tops
mod Leaping
pub mod Reasons
mod Emptied
mod Stored
pub mod LastSaved
