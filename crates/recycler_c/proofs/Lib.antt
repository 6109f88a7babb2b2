-- The modules of the proofs.
pub mod Opened
pub mod Rows
pub mod Runs
pub mod Sends
pub mod Settles
pub mod Renews
pub mod Standings
pub mod Starts
pub mod Still
pub mod Straight
pub mod Ties
pub mod Values
