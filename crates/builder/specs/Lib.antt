pub mod Events
pub mod Rows
pub mod Building
pub mod Content
pub mod Examples
