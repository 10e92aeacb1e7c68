-- What a reader is owed of the log that a tick leaves.
pub mod Laws
