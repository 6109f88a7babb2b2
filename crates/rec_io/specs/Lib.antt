-- The modules of the definitions.
pub mod Faults
pub mod Text
pub mod Told
pub mod Source
pub mod Sink
pub mod Calls
pub mod BytesSource
pub mod RoomSink
pub mod Whole
