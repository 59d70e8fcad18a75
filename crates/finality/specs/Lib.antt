pub mod Final
pub mod Made
pub mod Needed
pub mod Settled
