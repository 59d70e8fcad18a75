pub mod Neighbours
pub mod Sized
