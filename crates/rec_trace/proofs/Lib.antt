-- The modules of the proofs.
pub mod Filled
pub mod Gathered
pub mod Itself
pub mod Joining
pub mod Taken
pub mod Traced
