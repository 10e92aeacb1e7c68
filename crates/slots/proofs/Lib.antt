-- Laws of parts of a list, of what an address finds in the view, and of the searches for an address and for room.
pub mod Lists
pub mod Find
pub mod Firsts
pub mod Place
pub mod Choosing
