pub mod Checks
pub mod Inner
pub mod LentData
pub mod Rows
pub mod Standard
