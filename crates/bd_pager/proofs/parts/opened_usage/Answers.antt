use Rattle.std.proofs.Common.{◌++◌, refl}
use Rattle.bd_table.specs.Tables.{slots_of}
use Rattle.bd_pager.proofs.FlagLemmas.{same_flags}
use Rattle.bd_pager.proofs.parts.opened_usage.Goals as goal

pub returns-clause-unchanged : goal.returns-clause-unchanged
returns-clause-unchanged c = record {
  free = same_flags c.args.slots (c.args.at.now ++ slots_of c.args.entries.now) c.in_ok-spare_beside-2.field-0 c.in_ok-spare_beside.field-0 c.in_ok-spare_beside-2.ensures c.in_ok-spare_beside.ensures;
  changed = refl;
  in_memory = refl;
}
