-- The modules of the proofs.
pub mod Sends
pub mod Waiting
