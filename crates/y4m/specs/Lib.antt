pub mod Text
pub mod Stream
pub mod Calls
pub mod Places
