-- The definitions that the contracts of minisign_base use.
pub mod Decoding
pub mod Derivation
pub mod DeviceCalls
pub mod Devices
pub mod Fault
pub mod Faults
pub mod KeyIds
pub mod Limits
pub mod Members
pub mod Passwords
pub mod Prompts
pub mod Scheme
pub mod Steps
pub mod Toy
pub mod ToyLaw
