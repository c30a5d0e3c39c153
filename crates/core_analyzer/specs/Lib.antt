pub mod Dumps
pub mod CoreDumps
pub mod DumpReading
pub mod DumpFields
pub mod Waveform
pub mod Running
pub mod Level
pub mod Rising
