-- The steps after the first, each in place.
mod Later
