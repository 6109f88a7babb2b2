-- The modules of the definitions.
pub mod Ran
pub mod Ready
