pub mod Views
pub mod Carrying
pub mod Parts
pub mod TwoFields
