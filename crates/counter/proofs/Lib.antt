pub mod Stepping
pub mod Accepting
pub mod Inverse
