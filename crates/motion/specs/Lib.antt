pub mod Cases
pub mod Far
pub mod Grids
pub mod Inner
pub mod Lent
pub mod Motion
pub mod Pictures
pub mod Sets
