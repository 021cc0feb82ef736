-- Laws of the sixth step.
mod Named
mod InFront
