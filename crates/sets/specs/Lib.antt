pub mod Member
pub mod Arena
pub mod Step
pub mod Count
pub mod Packed
pub mod Tabulate
