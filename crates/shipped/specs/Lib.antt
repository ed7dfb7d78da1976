pub mod Bytes
pub mod Strategies
pub mod Table
