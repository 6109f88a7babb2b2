-- The modules of the proofs.
pub mod Freeing
pub mod Giving
pub mod Keeping
pub mod Kept
pub mod Orange
pub mod Runs
pub mod Sweeping
pub mod TakenOff
pub mod Sends
