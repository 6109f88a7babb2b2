-- The modules of the definitions.
pub mod Sets
pub mod Inside
