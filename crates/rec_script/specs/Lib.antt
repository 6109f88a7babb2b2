-- The modules of the definitions.
pub mod Behind
pub mod Drafts
pub mod Fields
pub mod Lines
pub mod Made
pub mod Operands
pub mod Script
