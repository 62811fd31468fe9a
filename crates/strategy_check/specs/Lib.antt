pub mod Seats
pub mod Walks
pub mod Nodes
pub mod Systems
