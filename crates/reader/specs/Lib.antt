pub mod Reading
pub mod Feeding
pub mod View
pub mod Examples
pub mod Worked
