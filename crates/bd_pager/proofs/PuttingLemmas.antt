-- Nodes that are put, and those that a step gives.
use Rattle.std.proofs.Common.{◌≡◌, ℕ, suc, ◌-◌, ◌<◌, ◌≤◌, Bool, true, false, cond, eqb, ltb, List, [], ◌∷◌, ◌++◌, map, Option, None, Some, refl, sym, ap, ◌∙◌, arith, inl, inr}
use Rattle.std.specs.Prelude.{slice_get}
use Rattle.std.specs.Global.{Global}
use Rattle.std.specs.Option.{option_map}
use Rattle.std.specs.declared.rc.Rc.{Rc}
use Rattle.std.proofs.lemmas.Bool.{cases_eq, cases_lt, cond-true, cond-false, lt-ltb, le-ltb}
use Rattle.bd_node.specs.declared.node.Node.{Node}
use Rattle.bd_node.specs.declared.node.Change.{Change}
use Rattle.bd_node.specs.declared.node.Step.{Step}
use Rattle.bd_node.specs.Tables.{Table, IsTable}
use Rattle.bd_node.specs.Steps.{changed_at, given, given_or, IsChange, IsStep}
use Rattle.bd_node.proofs.Lookup.{each_weaker}
use Rattle.bd_node.proofs.Stepping.{given-old, given-new, changed_at-same, changed_at-other, changed_at-none}
use Rattle.bd_pager.specs.declared.stepping.Put.{Put}
use Rattle.bd_pager.specs.Stepping.{held, change_of, put_at, made_changes, given_changes}

-- ---- lists of changes

pub made_at : (made : List Node) (next id : ℕ) → changed_at (made_changes next made) id ≡ cond (ltb id next) None (slice_get made (id - next))
made_at [] next id = elim (cases_lt id next) [
  | inl low ↦ sym (cond-true (ltb id next) None (slice_get [] (id - next)) (lt-ltb id next low))
  | inr high ↦ sym (cond-false (ltb id next) None (slice_get [] (id - next)) (le-ltb id next high))
]
made_at (n ∷ ns) next id =
    let rest : List Change = made_changes (suc next) ns in
    let first : Change = record { id = next; node = n } in
    elim (cases_lt id next) [
      | inl low ↦
          changed_at-other first rest id (λ e. omega (arith, low, e))
          ∙ made_at ns (suc next) id
          ∙ cond-true (ltb id (suc next)) None (slice_get ns (id - suc next)) (lt-ltb id (suc next) (omega (arith, low)))
          ∙ sym (cond-true (ltb id next) None (slice_get (n ∷ ns) (id - next)) (lt-ltb id next low))
      | inr high ↦ elim (cases_eq id next) [
        | inl same ↦
            let start : id - next ≡ 0 = omega (arith, same) in
            changed_at-same first rest id same
            ∙ sym (ap (λ (k : ℕ). slice_get (n ∷ ns) k) start)
            ∙ sym (cond-false (ltb id next) None (slice_get (n ∷ ns) (id - next)) (le-ltb id next high))
        | inr other ↦
            let above : suc next ≤ id = omega (arith, high, other) in
            let later : id - next ≡ suc (id - suc next) = omega (arith, above) in
            changed_at-other first rest id other
            ∙ made_at ns (suc next) id
            ∙ cond-false (ltb id (suc next)) None (slice_get ns (id - suc next)) (le-ltb id (suc next) above)
            ∙ sym (ap (λ (k : ℕ). slice_get (n ∷ ns) k) later)
            ∙ sym (cond-false (ltb id next) None (slice_get (n ∷ ns) (id - next)) (le-ltb id next high))
      ]
    ]

given_cond : (b : Bool) (n : Node) (o old : Option Node) → cond b (Some n) (given_or o old) ≡ given_or (cond b (Some n) o) old
given_cond true n o old = refl
given_cond false n o old = refl

changed_both : (xs ys : List Change) (id : ℕ) → changed_at (xs ++ ys) id ≡ given_or (changed_at xs id) (changed_at ys id)
changed_both [] ys id = refl
changed_both (x ∷ xs) ys id =
    ap (λ (o : Option Node). cond (eqb id x.id) (Some x.node) o) (changed_both xs ys id)
    ∙ given_cond (eqb id x.id) x.node (changed_at xs id) (changed_at ys id)

given_none : (o : Option Node) → given_or o None ≡ o
given_none None = refl
given_none (Some n) = refl

-- no new id is changed
new_unchanged : (t : Table) (step : Step) → IsTable t → IsStep t step → (id : ℕ) → t.next ≤ id → changed_at step.changes id ≡ None
new_unchanged t step table ok id high =
    changed_at-none (λ i. i < t.next) step.changes id
    (each_weaker (IsChange t step) (λ (c : Change). c.id < t.next) (λ c change. table.below c.id change.kept) step.changes ok.changes)
    (λ low. omega (arith, low, high))

-- what a step gives an id
pub given_at : (t : Table) (step : Step) → IsTable t → IsStep t step → (id : ℕ) → changed_at (given_changes t.next step) id ≡ given t.next step id
given_at t step table ok id =
    let made : Option Node = cond (ltb id t.next) None (slice_get step.made (id - t.next)) in
    changed_both (made_changes t.next step.made) step.changes id
    ∙ ap (λ (o : Option Node). given_or o (changed_at step.changes id)) (made_at step.made t.next id)
    ∙ elim (cases_lt id t.next) [
      | inl low ↦
          ap (λ (o : Option Node). given_or o (changed_at step.changes id)) (cond-true (ltb id t.next) None (slice_get step.made (id - t.next)) (lt-ltb id t.next low))
          ∙ sym (given-old t.next step id low)
      | inr high ↦
          ap (λ (o : Option Node). given_or o (changed_at step.changes id)) (cond-false (ltb id t.next) None (slice_get step.made (id - t.next)) (le-ltb id t.next high))
          ∙ ap (λ (o : Option Node). given_or (slice_get step.made (id - t.next)) o) (new_unchanged t step table ok id high)
          ∙ given_none (slice_get step.made (id - t.next))
          ∙ sym (given-new t.next step id high)
    ]

-- ---- nodes that are put

mapped_cond : (b : Bool) (n : Rc Node Global) (o : Option (Rc Node Global)) → option_map held (cond b (Some n) o) ≡ cond b (Some n.value) (option_map held o)
mapped_cond true n o = refl
mapped_cond false n o = refl

-- a put is a change
pub put_is : (puts : List Put) (id : ℕ) → option_map held (put_at puts id) ≡ changed_at (map change_of puts) id
put_is [] id = refl
put_is (p ∷ ps) id =
    mapped_cond (eqb id p.id) p.node (put_at ps id)
    ∙ ap (λ (o : Option Node). cond (eqb id p.id) (Some p.node.value) o) (put_is ps id)
