-- The modules of the proofs.
pub mod AnswerLines
pub mod Counted
pub mod Cuts
pub mod Numbers
pub mod Rows
pub mod Summed
