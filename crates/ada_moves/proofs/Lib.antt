mod Counting
mod Held
mod Keeping
mod Listing
mod Stepping
