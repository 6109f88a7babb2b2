-- The modules of the proofs.
pub mod Amid
pub mod Coming
pub mod Goes
pub mod Rest
pub mod Runs
pub mod Settles
pub mod Shows
pub mod Stays
pub mod Waiting
