pub mod Findings
pub mod GameFindings
pub mod Rows
pub mod Audits
pub mod Moves
