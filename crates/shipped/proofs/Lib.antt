pub mod Judged
pub mod Games
