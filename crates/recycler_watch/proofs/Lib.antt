-- The lemmas of this crate.
mod Adding
mod Lines
mod Pieces
mod Running
