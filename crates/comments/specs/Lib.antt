pub mod Classing
pub mod Examples
pub mod Rows
pub mod Rules
