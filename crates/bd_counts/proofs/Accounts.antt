-- Names that are taken back, one after the other.
use Rattle.std.proofs.Common.{◌≡◌, ℕ, ◌+◌, ◌≤◌, refl, sym, ap, subst, arith, inl, inr, List, [], ◌∷◌, ◌++◌}
use Rattle.std.specs.List.{sum_by}
use Rattle.std.specs.HashMap.{HashMap}
use Rattle.std.proofs.lemmas.Bool.{cases_lt}
use Rattle.std.proofs.lemmas.List.Sums.{sum_by-append, sum_by-cons}
use Rattle.bd_node.specs.declared.node.Change.{Change}
use Rattle.bd_node.specs.declared.node.Step.{Step}
use Rattle.bd_node.specs.Meaning.{Nodes}
use Rattle.bd_node.specs.Tables.{Table, IsSound, times_in, one_if}
use Rattle.bd_node.specs.Steps.{after, given_times}
use Rattle.bd_node.proofs.Sound.{one_if-same}
use Rattle.bd_counts.specs.Naming.{times_among, step_names}
use Rattle.bd_counts.specs.Counting.{overlaid, IsRecount, IsOwing}
use Rattle.bd_counts.specs.Releasing.{IsLess}
use Rattle.bd_counts.specs.Reading.{taken_times, GoesToo, AreLetGo, IsLetGo, IsReadBy, FallsBelow, IsAccounted}
use Rattle.bd_counts.specs.Reading.AreLetGo.{none_goes, one_more}
use Rattle.bd_counts.proofs.Names.{step_names_times}
use Rattle.bd_counts.proofs.Recounting.{owed_pushed}

-- one more node is gone
taken_more : (nodes : Nodes) (t : Table) (step : Step) (gone new : List ℕ) (id : ℕ) → new ≡ gone ++ id ∷ [] → (c : ℕ) → taken_times nodes t step new c ≡ taken_times nodes t step gone c + times_in (after nodes t step id) c
taken_more nodes t step gone new id is c =
    let F : ℕ → ℕ = λ (i : ℕ). times_in (after nodes t step i) c in
    let pushed : sum_by F new ≡ sum_by F (gone ++ id ∷ []) = ap (sum_by F) is in
    let split : sum_by F (gone ++ id ∷ []) ≡ sum_by F gone + sum_by F (id ∷ []) = sum_by-append F gone (id ∷ []) in
    let one : sum_by F (id ∷ []) ≡ F id + sum_by F [] = sum_by-cons F id [] in
    let none : sum_by F [] ≡ 0 = refl in
    omega arith

-- all names that a step takes back at first are owed, and nothing is gone
pub begun_accounted : (nodes : Nodes) (t : Table) (step : Step) (counts : ℕ → ℕ) (gone owed : List ℕ) → gone ≡ []
    → ((c : ℕ) → counts c ≡ t.count c + times_among (step_names step) c)
    → ((c : ℕ) → times_among owed c ≡ one_if t.root c + sum_by (λ (d : Change). times_in (nodes d.id) c) step.changes)
    → IsAccounted nodes t step counts gone owed
begun_accounted nodes t step counts gone owed none are owed_is = record {
  are_gone = subst (AreLetGo nodes t step) (sym none) none_goes;
  sums = λ c.
      let F : ℕ → ℕ = λ (i : ℕ). times_in (after nodes t step i) c in
      let empty : sum_by F gone ≡ 0 = ap (sum_by F) none in
      let a : counts c ≡ t.count c + times_among (step_names step) c = are c in
      let b : times_among owed c ≡ one_if t.root c + sum_by (λ (d : Change). times_in (nodes d.id) c) step.changes = owed_is c in
      omega arith;
}

module _ (nodes : Nodes) (t : Table) (step : Step) (id : ℕ) (counts : ℕ → ℕ) (gone owed all : List ℕ) (is : all ≡ owed ++ id ∷ []) (h : IsAccounted nodes t step counts gone all) where
  -- a name that isn't counted
  pub falls_below : counts id ≤ one_if step.root id → FallsBelow nodes t step
  falls_below low =
      let sums : counts id + taken_times nodes t step gone id ≡ t.count id + times_among (step_names step) id + times_among all id = h.sums id in
      let times : times_among all id ≡ one_if id id + times_among owed id = owed_pushed owed all id is id in
      let one : one_if id id ≡ 1 = one_if-same id in
      let parts : times_among (step_names step) id ≡ given_times step id + one_if step.root id = step_names_times step id in
      record { gone = gone; are_gone = h.are_gone; id = id; below = omega arith }

  -- the last name of a node, which goes too
  pub goes_too : IsRecount t step counts gone → counts id ≡ 1 → GoesToo nodes t step gone id
  goes_too r last = record {
    there = r.there id (omega arith);
    once =
        elim (cases_lt 0 (times_among gone id)) [
          | inl some ↦ (let none : counts id ≡ 0 = (r.only id (omega arith)).1 in absurd (omega arith))
          | inr out ↦ omega arith
        ];
    taken =
        let sums : counts id + taken_times nodes t step gone id ≡ t.count id + times_among (step_names step) id + times_among all id = h.sums id in
        let times : times_among all id ≡ one_if id id + times_among owed id = owed_pushed owed all id is id in
        let one : one_if id id ≡ 1 = one_if-same id in
        omega arith;
  }

  pub let_go : IsRecount t step counts gone → counts id ≡ 1 → IsLetGo nodes t step id
  let_go r last = record { before = gone; are_gone = h.are_gone; goes = goes_too r last }

  -- a name is taken back, and the node stays
  pub accounted_one : (new : ℕ → ℕ) → IsLess id counts new → IsAccounted nodes t step new gone owed
  accounted_one new less = record {
    are_gone = h.are_gone;
    sums = λ c.
        let sums : counts c + taken_times nodes t step gone c ≡ t.count c + times_among (step_names step) c + times_among all c = h.sums c in
        let times : times_among all c ≡ one_if id c + times_among owed c = owed_pushed owed all id is c in
        let e : new c + one_if id c ≡ counts c = less.each c in
        omega arith;
  }

  -- the last one is, and the node goes
  pub accounted_last : (new : ℕ → ℕ) (new_gone new_owed : List ℕ) → IsRecount t step counts gone → counts id ≡ 1 → IsLess id counts new → new_gone ≡ gone ++ id ∷ []
      → ((c : ℕ) → times_among new_owed c ≡ times_among owed c + times_in (after nodes t step id) c) → IsAccounted nodes t step new new_gone new_owed
  accounted_last new new_gone new_owed r last less pushed owed_is = record {
    are_gone = subst (AreLetGo nodes t step) (sym pushed) (one_more gone id h.are_gone (goes_too r last));
    sums = λ c.
        let sums : counts c + taken_times nodes t step gone c ≡ t.count c + times_among (step_names step) c + times_among all c = h.sums c in
        let times : times_among all c ≡ one_if id c + times_among owed c = owed_pushed owed all id is c in
        let e : new c + one_if id c ≡ counts c = less.each c in
        let more : taken_times nodes t step new_gone c ≡ taken_times nodes t step gone c + times_in (after nodes t step id) c = taken_more nodes t step gone new_gone id pushed c in
        let left : times_among new_owed c ≡ times_among owed c + times_in (after nodes t step id) c = owed_is c in
        omega arith;
  }

-- ---- the same of nodes after reads

module _ (nodes new : Nodes) (t u : Table) (step : Step) (same : new ≡ nodes) (table : u ≡ t) where
  pub read_before : (id : ℕ) → IsReadBy new u step id → IsReadBy nodes t step id
  read_before id h = subst (λ (v : Table). IsReadBy nodes v step id) table (subst (λ (n : Nodes). IsReadBy n u step id) same h)

  pub falls_before : FallsBelow new u step → FallsBelow nodes t step
  falls_before h = subst (λ (v : Table). FallsBelow nodes v step) table (subst (λ (n : Nodes). FallsBelow n u step) same h)

  pub accounted_after : {S : Type 0} (counts : HashMap ℕ ℕ S) (gone owed : List ℕ) → IsAccounted nodes t step (overlaid t.count counts) gone owed → IsAccounted new u step (overlaid u.count counts) gone owed
  accounted_after counts gone owed h =
      subst (λ (v : Table). IsAccounted new v step (overlaid v.count counts) gone owed) (sym table)
      (subst (λ (n : Nodes). IsAccounted n t step (overlaid t.count counts) gone owed) (sym same) h)

  pub accounted_before : {S : Type 0} (counts : HashMap ℕ ℕ S) (gone owed : List ℕ) → IsAccounted new u step (overlaid u.count counts) gone owed → IsAccounted nodes t step (overlaid t.count counts) gone owed
  accounted_before counts gone owed h =
      subst (λ (v : Table). IsAccounted nodes v step (overlaid v.count counts) gone owed) table
      (subst (λ (n : Nodes). IsAccounted n u step (overlaid u.count counts) gone owed) same h)

  pub sound_after : IsSound nodes t → IsSound new u
  sound_after h = subst (λ (v : Table). IsSound new v) (sym table) (subst (λ (n : Nodes). IsSound n t) (sym same) h)

  pub owing_after : {S : Type 0} (counts : HashMap ℕ ℕ S) (owed : List ℕ) → IsOwing nodes t step (overlaid t.count counts) owed → IsOwing new u step (overlaid u.count counts) owed
  owing_after counts owed h =
      subst (λ (v : Table). IsOwing new v step (overlaid v.count counts) owed) (sym table)
      (subst (λ (n : Nodes). IsOwing n t step (overlaid t.count counts) owed) (sym same) h)

  pub owing_before : {S : Type 0} (counts : HashMap ℕ ℕ S) (owed : List ℕ) → IsOwing new u step (overlaid u.count counts) owed → IsOwing nodes t step (overlaid t.count counts) owed
  owing_before counts owed h =
      subst (λ (n : Nodes). IsOwing n t step (overlaid t.count counts) owed) same
      (subst (λ (v : Table). IsOwing new v step (overlaid v.count counts) owed) table h)
