-- The modules of the definitions.
pub mod Collecting
pub mod Left
pub mod Quiet
pub mod Resting
pub mod Settling
pub mod Shown
pub mod Stages
pub mod Whole
