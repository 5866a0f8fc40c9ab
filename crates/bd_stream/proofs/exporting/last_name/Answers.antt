use Rattle.std.proofs.Common.{List, [], ◌∷◌, subst, sym, arith}
use Rattle.bd_command.specs.Command.{IsAfter}
use Rattle.bd_model.specs.Tree.{Path}
use Rattle.bd_names.specs.Names.{AreNames}
use Rattle.bd_names.proofs.NamesLaws.{AreNames-cons}
use Rattle.bd_stream.specs.Exporting.{last_name}
use Rattle.bd_stream.proofs.PlaceLemmas.{last_popped}
use Rattle.bd_stream.proofs.exporting.last_name.Goals as goal

pub returns-clause-found : goal.returns-clause-found
returns-clause-found c =
    let v = c.in_ok-names.names in
    last_popped c.pop.result c.args.path.now v.items c.pop.new.self.items v.len c.in_ok-names.ensures c.pop.ensures.items c.pop.ensures.variant (omega (arith, v.ok))

is_after : (path : Path) → AreNames path → IsAfter (last_name path)
is_after [] are = tt
is_after (n ∷ []) are = (AreNames-cons n [] are).0
is_after (n ∷ m ∷ ns) are = is_after (m ∷ ns) (AreNames-cons n (m ∷ ns) are).1

pub returns-clause-name : goal.returns-clause-name
returns-clause-name c =
    let v = c.in_ok-names.names in
    subst IsAfter (sym (last_popped c.pop.result c.args.path.now v.items c.pop.new.self.items v.len c.in_ok-names.ensures c.pop.ensures.items c.pop.ensures.variant (omega (arith, v.ok))))
    (is_after c.args.path.now c.as_bytes-text.ensures.names)
