-- The modules of the definitions.
pub mod Image
pub mod Standing
pub mod Drafts
pub mod Restored
pub mod Fields
pub mod Renewed
