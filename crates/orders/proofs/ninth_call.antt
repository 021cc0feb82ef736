-- The tests of the ninth call, and what it does once they have passed.
mod Tests
mod Carried
