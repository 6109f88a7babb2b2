-- The modules of the proofs.
pub mod Options
pub mod Requests
pub mod Subcommands
