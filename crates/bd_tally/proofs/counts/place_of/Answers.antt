use Rattle.std.proofs.Common.{◌≢◌, ℕ, length, Option, Result, Ok, Err, IfSome, IfNone, All, List, sym, subst, rules}
use Rattle.std.specs.List.Sorted.{IsSearchInRange, IsBinarySearchResult}
use Rattle.std.specs.Ordering.{nat_cmp}
use Rattle.std.specs.Result.{result_ok}
use Rattle.std.proofs.lemmas.List.Sorted.{answers_always}
use Rattle.bd_tally.specs.Counts.{AreRising, IsPlaceOf}
use Rattle.bd_tally.specs.declared.count.Count.{Count}
use Rattle.bd_tally.proofs.Searching.{found_at, found_none}
use Rattle.bd_tally.proofs.counts.place_of.Goals as goal

found_place : (cs : List Count) (id : ℕ) (r : Result ℕ ℕ) → IsSearchInRange r (length cs) → IsBinarySearchResult (λ (c : Count). nat_cmp c.id id) cs r → IfSome (result_ok r) (IsPlaceOf cs id)
found_place cs id (Ok place) within equal = record { within = within; of_id = found_at (λ (c : Count). c.id) cs id place equal }
found_place cs id (Err place) within parted = tt

none_found : (cs : List Count) (id : ℕ) (r : Result ℕ ℕ) → AreRising cs → IsBinarySearchResult (λ (c : Count). nat_cmp c.id id) cs r → IfNone (result_ok r) (All (λ (c : Count). c.id ≢ id) cs)
none_found cs id (Ok place) rising equal = tt
none_found cs id (Err place) rising parted = found_none (λ (c : Count). c.id) cs id place rising parted

-- the closure gives a count's id
pub returns-clause-found : goal.returns-clause-found
returns-clause-found c =
    let facts = c.binary_search_by_key.ensures in
    let by_id = facts.position (λ (count : Count). count.id) (answers_always _ _ _ (λ f a r g called. search rules)) in
    subst (λ (o : Option ℕ). IfSome o (IsPlaceOf c.args.counts.now c.args.id)) (sym c.ok.ensures.value)
    (found_place c.args.counts.now c.args.id c.binary_search_by_key.result facts.bound by_id)

pub returns-clause-none : goal.returns-clause-none
returns-clause-none c =
    let facts = c.binary_search_by_key.ensures in
    let by_id = facts.position (λ (count : Count). count.id) (answers_always _ _ _ (λ f a r g called. search rules)) in
    subst (λ (o : Option ℕ). IfNone o (All (λ (count : Count). count.id ≢ c.args.id) c.args.counts.now)) (sym c.ok.ensures.value)
    (none_found c.args.counts.now c.args.id c.binary_search_by_key.result c.requires by_id)
