-- The modules of the definitions.
pub mod Bare
pub mod Causes
pub mod Inside
pub mod Next
pub mod Parking
pub mod Private
pub mod Scans
pub mod Step
pub mod Took
