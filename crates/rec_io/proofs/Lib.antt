-- The modules of the proofs.
pub mod Faults
pub mod Numerals
pub mod Options
pub mod Reading
pub mod Told
pub mod Writing
