mod Counts
mod Joined
mod Left
mod Walked
