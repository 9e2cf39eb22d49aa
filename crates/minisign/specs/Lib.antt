-- The definitions that the contracts of minisign use.
pub mod Records
pub mod Texts
pub mod Reading
pub mod Acceptance
pub mod KeyTexts
pub mod SignatureText
pub mod Sealing
pub mod Signing
pub mod Verifying
pub mod Headline
pub mod Generation
-- The definitions of minisign_base, so that a crate that lists only minisign can cite them.
pub use Rattle.minisign_base.specs.DeviceCalls
pub use Rattle.minisign_base.specs.Devices
pub use Rattle.minisign_base.specs.Fault
pub use Rattle.minisign_base.specs.Faults
pub use Rattle.minisign_base.specs.Limits
pub use Rattle.minisign_base.specs.Members
pub use Rattle.minisign_base.specs.Passwords
pub use Rattle.minisign_base.specs.Prompts
pub use Rattle.minisign_base.specs.Scheme
pub use Rattle.minisign_base.specs.declared.errors.ErrorKind.TheVariants as ErrorKinds
pub use Rattle.minisign_base.specs.declared.faults.NamedFault.TheVariants as NamedFaults
pub use Rattle.minisign_base.specs.declared.prompt.Prompt as Prompt
