-- The entries of a table by their ids.
use Rattle.std.proofs.Common.{◌≡◌, ◌≢◌, ℕ, zero, suc, ◌<◌, Bool, true, false, cond, List, [], ◌∷◌, length, get_or, Option, None, Some, refl, ap, ◌∙◌, arith}
use Rattle.std.specs.Prelude.{AllPairs, Contains, ◌==◌}
use Rattle.std.specs.List.{AllByRecursion}
use Rattle.std.proofs.lemmas.Bool.{cond-true, cond-false, eq-eqb, ne_eqb}
use Rattle.bd_table.specs.declared.table.TableEntry.{TableEntry}
use Rattle.bd_table.specs.Entries.{entry_of}

-- by rising ids
abbrev pub AreRising : List TableEntry → Type 0
AreRising entries = AllPairs (λ x y. x.id < y.id) entries

at_place : (entries : List TableEntry) (e : TableEntry) (k : ℕ) → k < length entries → get_or entries k e ≡ e → AreRising entries → entry_of entries e.id ≡ Some e
at_place [] e k lt is rising = absurd (omega (arith, lt))
at_place (x ∷ entries) e zero lt is rising =
    cond-true (x.id == e.id) (Some x) (entry_of entries e.id) (eq-eqb x.id e.id (ap (λ (y : TableEntry). y.id) is)) ∙ ap Some is
at_place (x ∷ entries) e (suc k) lt is rising =
    let later : get_or (x ∷ entries) (suc k) e ≡ e = is in
    let low : x.id < (get_or entries k e).id = rising zero (suc k) e (omega arith) lt in
    let same : (get_or entries k e).id ≡ e.id = ap (λ (y : TableEntry). y.id) later in
    cond-false (x.id == e.id) (Some x) (entry_of entries e.id) (ne_eqb x.id e.id (λ one. absurd (omega (arith, low, same, one))))
    ∙ at_place entries e k (omega (arith, lt)) later (λ i j d up within. rising (suc i) (suc j) d (omega (arith, up)) (omega (arith, within)))

-- an entry is that of its id
pub entry_found : (entries : List TableEntry) (e : TableEntry) → AreRising entries → Contains entries e → entry_of entries e.id ≡ Some e
entry_found entries e rising among = at_place entries e among.0 among.1 among.2 rising

-- an id of no entry has none
pub no_entry : (entries : List TableEntry) (id : ℕ) → AllByRecursion (λ e. e.id ≢ id) entries → entry_of entries id ≡ None
no_entry [] id h = refl
no_entry (x ∷ entries) id h = cond-false (x.id == id) (Some x) (entry_of entries id) (ne_eqb x.id id h.0) ∙ no_entry entries id h.1

-- the entry that is found stands in the table
pub entry_stands : (entries : List TableEntry) (id : ℕ) (e : TableEntry) → entry_of entries id ≡ Some e → (k : ℕ) × (k < length entries) × (get_or entries k e ≡ e)
entry_stands [] id e h = absurd (let no : None ≡ Some e = h in cc)
entry_stands (x ∷ entries) id e h = by (x.id == id) (entry_stands entries id e) h
  where
    by : (b : Bool) → (entry_of entries id ≡ Some e → (k : ℕ) × (k < length entries) × (get_or entries k e ≡ e)) → cond b (Some x) (entry_of entries id) ≡ Some e
        → (k : ℕ) × (k < length (x ∷ entries)) × (get_or (x ∷ entries) k e ≡ e)
    by true later h = let same : x ≡ e = cc in (zero, omega arith, same)
    by false later h = let rest = later h in (suc rest.0, omega (arith, rest.1), rest.2)
