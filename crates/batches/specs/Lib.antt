pub mod Lines
pub mod Lanes
pub mod Moves
