-- The lemmas that the proofs of minisign_examples use.
mod AskedAgain
mod Refusals
mod SignedPairs
mod GivenKeys
