-- The modules of the proofs about a race with a listener.
pub mod Sends
