-- The lemmas that the proofs of minisign_vectors use.
mod Facts
