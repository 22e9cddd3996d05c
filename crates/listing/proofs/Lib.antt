mod Laid
mod Lined
mod Summed
mod Fitted
