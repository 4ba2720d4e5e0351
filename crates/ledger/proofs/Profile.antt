-- "The profile's own limits are: .. code at most 60."
use Rattle.std.proofs.Common.{◌≤◌, lit≤}
use Rattle.ledger.specs.Limits.{code_lifetime, profile_code}

pub code_profile : code_lifetime ≤ profile_code
code_profile = lit≤ tt
