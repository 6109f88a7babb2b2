-- The modules of the definitions.
pub mod Events
pub mod Legal
pub mod Naming
pub mod Refused
