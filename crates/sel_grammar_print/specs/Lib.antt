pub mod PrintedGrammar
pub mod PrintedLaws
