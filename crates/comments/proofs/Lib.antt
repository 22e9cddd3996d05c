mod Conditions
mod Deciding
mod Searches
mod Trims
