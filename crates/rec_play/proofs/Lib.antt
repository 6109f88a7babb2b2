-- The modules of the proofs.
pub mod Due
pub mod Going
pub mod Named
mod Once
pub mod NotYet
pub mod Opened
pub mod Orders
pub mod Ready
pub mod Room
pub mod Rounds
pub mod Shows
mod There
pub mod Turns
pub mod Unfinished
mod Walks
