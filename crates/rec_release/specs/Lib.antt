-- The modules of the definitions.
pub mod CycleFree
pub mod Freed
pub mod Ran
pub mod Release
pub mod Released
pub mod Sweep
pub mod TakenOff
