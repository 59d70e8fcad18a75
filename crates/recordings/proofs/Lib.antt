pub mod Derived
pub mod Numbers
pub mod Refused
pub mod Slices
pub mod Turns
pub mod Verdict
