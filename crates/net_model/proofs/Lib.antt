-- Lemmas on the printing of networks.
pub mod Naming
