use Rattle.std.proofs.Common.{◌≡◌, ℕ, List, nat_eq, rules, sym, subst}
use Rattle.std.specs.List.{IsDistinct}
use Rattle.std.specs.List.Sorted.{IsPermutation}
use Rattle.bd_pager.specs.Places.{spots_in}
use Rattle.bd_pager.proofs.DraftLemmas.{sorted_ids}
use Rattle.bd_pager.proofs.draft.kept_ids.Goals as goal

pub returns-clause-ids : goal.returns-clause-ids
returns-clause-ids c =
    let same : c.in_ok-ids.ids.items ≡ c.keys.result = search rules in
    sorted_ids c.keys.result c.sort_unstable.new.self.items (spots_in c.args.spots.now)
    (subst (λ (l : List ℕ). IsDistinct nat_eq l) (sym c.keys.ensures.rest) c.keys.ensures.unique)
    c.keys.ensures.has
    (subst (λ (l : List ℕ). IsPermutation l c.sort_unstable.new.self.items) same c.sort_unstable.ensures.permutation)
    c.sort_unstable.ensures.sorted
