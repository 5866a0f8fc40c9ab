use Rattle.std.proofs.Common.{arith, ◌/◌, ◌≤◌, ◌≡◌, subst, length, ℕ, List, [], ◌∷◌, ◌∙◌, ap}
use Rattle.std.specs.Prelude.{Result, Option}
use Rattle.std.specs.Option.{unwrap_or}
use Rattle.std.specs.FinMap.{get}
use Rattle.bd_limits.specs.Limits.{file_limit, block_limit}
use Rattle.bd_command.specs.declared.refusal.Refusal.{Refusal}
use Rattle.bd_represent.specs.EntryKeys.{block_key}
use Rattle.bd_represent.specs.Represents.{stored}
use Rattle.bd_files.specs.Files.{IsFileOf}
use Rattle.bd_files.specs.Sends.{put_length, cut_past, shortened}
use Rattle.bd_files.proofs.Truncations.{longer_makes, shorter_makes, truncate_planned, longer_sent, shorter_sent}
use Rattle.bd_files.proofs.truncate.plan_truncate.Goals as goal

pub returns-then-len-size-clause-plan : goal.returns-then-len-size-clause-plan
returns-then-len-size-clause-plan g c = λ known t tree r.
    let at = g.M.KeyMap.has c.args.m.now in
    let path = c.args.path.now in
    let file = subst (λ (found : Result (ℕ × ℕ) Refusal). IsFileOf (get t path) found) c.in-Ok.is (c.in_ok-found.ensures.found known t tree r) in
    truncate_planned at t path c.in-Ok.found.1 c.args.len file.0 (put_length path c.in-Ok.found.1 c.args.len ∷ []) c.from_vec.result file.1 (omega arith) (c.from_vec.ensures ∙ c.in_ok-list.ensures.value) (longer_makes path c.in-Ok.found.1 c.args.len at t file.0 c.in_ok-found.ensures.names r file.1 (omega (arith, file.2)))
    (longer_sent at path c.in-Ok.found.1 (length file.0) c.args.len (omega (arith, file.2)))

pub returns-clause-plan : goal.returns-clause-plan
returns-clause-plan g c = λ known t tree r.
    let at = g.M.KeyMap.has c.args.m.now in
    let path = c.args.path.now in
    let file = subst (λ (found : Result (ℕ × ℕ) Refusal). IsFileOf (get t path) found) c.in-Ok.is (c.in_ok-found.ensures.found known t tree r) in
    let left = c.in_ok-found.ensures.left in
    let limit : c.args.len ≤ file_limit = omega arith in
    let last : c.deref.result.now ≡ stored at path (c.args.len / block_limit) =
    c.deref.ensures.value ∙ c.in_ok-last.ensures.bytes (left.known known) ∙ ap (λ (o : Option (List ℕ)). unwrap_or o []) (left.kept known (block_key path (c.args.len / block_limit))) in
    truncate_planned at t path c.in-Ok.found.1 c.args.len file.0 (put_length path c.in-Ok.found.1 c.args.len ∷ cut_past path c.args.len ∷ shortened path c.args.len c.deref.result.now) c.from_vec-2.result file.1 limit (c.from_vec-2.ensures ∙ c.in_ok-list-2.ensures.value)
    (shorter_makes path c.in-Ok.found.1 c.args.len c.deref.result.now at t file.0 c.in_ok-found.ensures.names r file.1 (omega (arith, file.2)) limit last)
    (shorter_sent at path c.in-Ok.found.1 (length file.0) c.args.len c.deref.result.now (omega (arith, file.2)) last)
