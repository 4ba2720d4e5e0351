-- The six calls, and the two beside them that only read: their answers, their checks in order, and what each does (demands 1 and 2).
pub mod Limits
pub mod Answers
pub mod Checks
pub mod Outcome
pub mod Requests
pub mod Start
pub mod Push
pub mod Decide
pub mod Token
pub mod Resource
pub mod Sweep
pub mod Pending
pub mod Introspect
pub mod Tests
