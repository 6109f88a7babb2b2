-- The modules of the definitions.
pub mod Beats
pub mod Homes
pub mod Rule
pub mod Views
pub mod Ends
pub mod Room
pub mod Journals
pub mod Safe
pub mod Answered
pub mod Scan
pub mod Operations
pub mod Turn
pub mod TurnRuns
pub mod Telling
pub mod Named
pub mod Straight
