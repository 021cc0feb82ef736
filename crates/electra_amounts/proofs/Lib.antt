-- Laws of the loops over the amounts.
mod Spreading
mod Booking
