pub mod Spelling
pub mod Replaying
pub mod Recorder
