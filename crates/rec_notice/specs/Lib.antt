-- The modules of the definitions.
pub mod RoomTube
pub mod Telling
pub mod Ring
pub mod Hearing
