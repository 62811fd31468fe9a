pub mod Regexes
pub mod RegexGrammar
