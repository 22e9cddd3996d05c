mod Feeds
mod Octets
