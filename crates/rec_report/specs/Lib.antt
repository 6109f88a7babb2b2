-- The modules of the definitions.
pub mod Pieces
pub mod Report
pub mod Summary
pub mod Text
