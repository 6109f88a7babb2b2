-- The modules of the definitions.
pub mod Judged
pub mod Prepare
pub mod Prepared
pub mod Ran
pub mod Refurbish
pub mod Settling
