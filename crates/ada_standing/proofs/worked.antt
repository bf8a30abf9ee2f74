-- Worked pairs of journals: short ones that stand in for longer ones, and wrong ones that don't, all computed.
mod Pairs
mod Server
mod Waits
mod Arrival
mod Queued
mod Closing
mod Aborted
mod Starting
