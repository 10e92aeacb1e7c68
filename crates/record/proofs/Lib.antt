-- What each change comes to, what the walks of the thin functions share, and the walk of enable and disable.
pub mod Numbers
pub mod Changing
