mod Rise
mod Search
