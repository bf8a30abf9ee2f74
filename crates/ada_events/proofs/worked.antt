-- Worked journals: scripts played by the definitions alone, each event and each refusal as it has to be.
pub mod Turns
mod Rendezvous
mod Waiting
mod Termination
mod Abort
mod Refused
mod Asked
