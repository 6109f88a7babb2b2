-- The modules of the definitions.
pub mod Audited
pub mod Ends
pub mod Headline
pub mod Making
pub mod Outcome
pub mod Resuming
pub mod Running
pub mod Status
pub mod Tracing
