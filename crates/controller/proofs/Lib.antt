pub mod Walking
pub mod Running
pub mod Readiness
