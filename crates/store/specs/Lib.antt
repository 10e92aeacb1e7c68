-- The static store: what a reader must believe. Read it in this order, beside document 01, after address, layout, slots, lookup, reading
-- and presence.
pub mod Edits
pub mod Refusals
pub mod Calls
pub mod Promise
