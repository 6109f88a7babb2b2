-- The modules of the definitions.
pub mod Cover
pub mod Lost
pub mod Prompt
