-- The bytes of requests and answers: the kinds of frames, what each asks, and what is answered.
pub mod Kinds
pub mod Calls
pub mod Answers
