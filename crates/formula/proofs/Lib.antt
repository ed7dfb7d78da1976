pub mod Rest
pub mod BitLaws
pub mod Masks
pub mod Planted
pub mod Inverse
