pub mod Alone
pub mod Both
pub mod BothCalls
pub mod Promise
pub mod Inner
pub mod LateField
pub mod LentFields
