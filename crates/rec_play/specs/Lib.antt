-- The modules of the definitions.
pub mod Awaited
pub mod Inside
pub mod InsidePlaying
pub mod InsideWalk
pub mod Left
pub mod Moves
pub mod Numbers
pub mod Played
pub mod Playing
pub mod Run
pub mod Shown
pub mod Start
pub mod Watched
