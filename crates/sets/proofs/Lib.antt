pub mod Members
pub mod Arenas
pub mod Counts
pub mod Steps
pub mod LaneWords
pub mod Packings
pub mod Tables
pub mod Agreeing
