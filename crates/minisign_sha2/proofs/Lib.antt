-- Lemmas about SHA-2.
pub mod Absorbing256
pub mod Schedule256
pub mod Absorbing512
pub mod Schedule512
mod ChMaj
mod Facts
mod Rotations
