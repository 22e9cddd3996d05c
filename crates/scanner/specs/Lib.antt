pub mod Ecma
pub mod Ends
pub mod Pieces
pub mod Gaps
pub mod View
