-- The parent of a path.
use Rattle.bd_names.proofs.NamesLaws.{parent_of-append}

-- the parent is what stands before the last name
pub ruleset parent_names = (parent_of-append)
