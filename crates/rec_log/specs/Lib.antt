-- The modules of the definitions.
pub mod Buffer
pub mod Words
