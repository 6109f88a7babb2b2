-- The modules of the proofs.
pub mod Lists
pub mod Works
pub mod Requests
pub mod Crews
pub mod Sends
