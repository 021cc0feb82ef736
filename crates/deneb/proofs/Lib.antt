-- Laws of Deneb's registry step.
mod Step
