-- The modules of the proofs.
pub mod Agreement
pub mod Legal
pub mod NextAnswer
pub mod Orders
pub mod Refused
pub mod Runs
pub mod Scans
pub mod Stamps
pub mod Stands
pub mod Steps
pub mod Unfreed
