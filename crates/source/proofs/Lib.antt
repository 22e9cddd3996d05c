mod First
pub mod Octets
pub mod Spelt
mod Seams
