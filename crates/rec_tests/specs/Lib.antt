-- The modules of the definitions.
pub mod Paired
pub mod Worked
