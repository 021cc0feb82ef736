-- The ninth number of each nine, and the slashings step that books by it.
mod Taken
