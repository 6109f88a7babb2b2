-- The modules of the definitions.
pub mod Atom
pub mod Bare
pub mod Header
pub mod Load
pub mod Looked
pub mod Mailbox
pub mod Op
pub mod Place
pub mod Shift
pub mod Walk
pub mod Wide
pub mod Word
