pub mod Carried
pub mod Lens
pub mod Lines
