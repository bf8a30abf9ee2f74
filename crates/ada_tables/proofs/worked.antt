-- Worked journals: what tables hold that stand for them, worked by hand.
mod Standing
