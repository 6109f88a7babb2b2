-- What the contracts of this crate cite.
pub mod Data
pub mod Seen
pub mod Sentence
pub mod Told
