-- The modules of the definitions.
pub mod ByStamps
pub mod Lines
pub mod Form
pub mod Graph
pub mod Graphs
pub mod Known
pub mod States
pub mod Said
pub mod Verdicts
pub mod Walks
pub mod Checkers
pub mod Journal
pub mod Keeping
pub mod Runs
pub mod Logged
