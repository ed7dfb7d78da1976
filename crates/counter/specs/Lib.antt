pub mod Ways
pub mod Sound
pub mod Steps
pub mod Written
