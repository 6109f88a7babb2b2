-- The modules of the definitions.
pub mod Batch
pub mod Batched
pub mod Colour
pub mod Counts
pub mod Groups
pub mod Kept
pub mod Lists
pub mod Rest
pub mod Shelf
pub mod Slot
pub mod Targets
pub mod Telling
pub mod Touched
