pub mod Bits
pub mod Symbols
pub mod Trees
pub mod Reading
pub mod Values
pub mod Laws
