-- The modules of the proofs.
pub mod Mutators
