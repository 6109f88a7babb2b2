-- The modules of the proofs.
pub mod Bare
pub mod FieldPlaces
pub mod Given
pub mod Headers
pub mod Looks
pub mod Packing
pub mod Shifts
pub mod Walks
