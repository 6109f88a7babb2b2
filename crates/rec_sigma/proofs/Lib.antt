-- The modules of the proofs.
pub mod Bounds
pub mod Cyclics
pub mod Kept
pub mod Renewals
pub mod Runs
pub mod Sends
