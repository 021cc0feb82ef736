-- The tests, read off the bits at once.
mod Runs
