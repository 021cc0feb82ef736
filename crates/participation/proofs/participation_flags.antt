-- What the step's tests give once passed.
mod Passed
