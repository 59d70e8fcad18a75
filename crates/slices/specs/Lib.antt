pub mod Inner
pub mod LentSlicing
pub mod Slicing
pub mod Table
