-- The modules of the proofs.
pub mod Cutting
pub mod Driven
pub mod Endings
pub mod Fronts
pub mod Noted
pub mod Opening
pub mod Outcomes
pub mod Makings
pub mod Resumed
pub mod Tails
pub mod Turns
pub mod Audits
