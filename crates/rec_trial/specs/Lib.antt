-- The modules of the definitions.
pub mod Loaded
pub mod Moves
pub mod Rules
pub mod Trial
pub mod Still
pub mod Tried
pub mod Witnessed
pub mod Promised
pub mod Postponed
