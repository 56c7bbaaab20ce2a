pub mod Chains
pub mod NameLists
pub mod Leading
