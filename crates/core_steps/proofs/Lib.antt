mod Reached
mod AtRest
mod Changed
mod Stepping
mod SentLemmas
mod Finished
mod Deliveries
mod Starts
