pub mod Trees
pub mod FormLemmas
pub mod ChainReading
pub mod TextLaws
pub mod Spelled
pub mod PrintedLines
pub mod PrintedWords
pub mod PrintedTrees
