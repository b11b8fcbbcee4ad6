pub mod NetworkGrammar
