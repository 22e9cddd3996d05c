mod Records
mod FirstTelling
mod NumberTelling
