-- A list of zeros
-- Rewards that book as they go
mod Rewards
