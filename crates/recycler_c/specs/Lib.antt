-- The modules of the definitions.
pub mod Boxed
pub mod Calls
pub mod Codes
pub mod First
pub mod Narrow
pub mod Shown
pub mod Sizes
pub mod Standing
pub mod Telling
