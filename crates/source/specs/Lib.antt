pub mod Rfc3629
pub mod Search
pub mod Characters
pub mod Unicode
pub mod View
