-- The modules of the proofs.
pub mod Levels
pub mod Words
