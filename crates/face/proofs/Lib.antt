-- Laws of the C face.
pub mod Answering
pub mod Writing
pub mod StoreCalls
pub mod RecordCalls
pub mod ScheduleCalls
pub mod Resetting
pub mod Parting
pub mod TickCalls
pub mod Once
