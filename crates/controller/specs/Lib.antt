pub mod Steps
pub mod Runs
pub mod Outcomes
pub mod Ready
pub mod Theorems
