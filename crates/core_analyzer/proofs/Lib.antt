pub mod DumpParts
pub mod DumpLoops
pub mod DumpSpelled
pub mod CoreTold
mod Split
mod Numerals
mod Lines
mod Levels
mod Moments
mod Names
mod Written
mod InOrder
mod Told
mod WaveformExamples
