pub mod NamingLemmas
pub mod ProductLemmas
pub mod FormulaLemmas
