-- What a cache keeps after its pairs were moved, put and removed.
use Rattle.std.proofs.Common.{◌≡◌, ◌≢◌, ℕ, zero, suc, ◌-◌, ◌<◌, true, false, cond, nat_eq, List, [], ◌∷◌, take, length, Option, Some, None, refl, sym, ap, ◌∙◌, arith, ◌⊎◌, inl, inr}
use Rattle.std.specs.Option.{option_map, option_map_or}
use Rattle.std.specs.Cmp.{nat_eq_equiv}
use Rattle.std.specs.List.{IsDistinct}
use Rattle.std.specs.Map.{keys_of, lookup, lookup_entry, remove_entry}
use Rattle.std.proofs.lemmas.Bool.{cases_Bool, eqb-true, eq-eqb}
use Rattle.std.proofs.lemmas.List.{take_all}
use Rattle.std.proofs.lemmas.Map.{lookup-remove_entry}
use Rattle.lru.specs.LruCache.{LruCache, promoted, put_entries}
use Rattle.lru.proofs.CallerLemmas.{Contains-lookup_entry}

-- an id that isn't another's passes no test for it
other_number : (a b c : ℕ) → nat_eq a c ≡ true → b ≢ a → nat_eq b c ≡ false
other_number a b c h other = elim (cases_Bool (nat_eq b c)) [
  | inl t ↦ absurd (other (eqb-true b c t ∙ sym (eqb-true a c h)))
  | inr f ↦ f
]

-- an id passes the test of one alone
one_number : (id x y : ℕ) → nat_eq id x ≡ true → nat_eq id y ≡ nat_eq x y
one_number id x y h = ap (λ n. nat_eq n y) (eqb-true id x h)

module _ {V : Type 0} where
  -- without the first pair of an id, another id has what it had
  pub lookup-other : (id other : ℕ) (es : List (ℕ × V)) → other ≢ id → lookup (nat_eq other) (remove_entry (nat_eq id) es) ≡ lookup (nat_eq other) es
  lookup-other id other [] h = refl
  lookup-other id other (e ∷ es) h = (elim (nat_eq id e.0) as (λ b. nat_eq id e.0 ≡ b → lookup (nat_eq other) (cond b es (e ∷ remove_entry (nat_eq id) es)) ≡ cond (nat_eq other e.0) (Some e.1) (lookup (nat_eq other) es)) [
    | true ↦ λ t. rw (other_number id other e.0 t h) refl
    | false ↦ λ t. ap (cond (nat_eq other e.0) (Some e.1)) (lookup-other id other es h)
  ]) refl

  -- and the id itself nothing, where no id stands twice
  pub lookup-gone : (id : ℕ) (es : List (ℕ × V)) → IsDistinct nat_eq (keys_of es) → lookup (nat_eq id) (remove_entry (nat_eq id) es) ≡ None
  lookup-gone id es distinct =
      lookup-remove_entry nat_eq_equiv (nat_eq id) (one_number id) id es distinct
      ∙ ap (λ b. cond b None (lookup (nat_eq id) es)) (eq-eqb id id refl)

  -- the value of the pair that is found
  lookup-entry : (id : ℕ) (es : List (ℕ × V)) → lookup (nat_eq id) es ≡ option_map (λ e. e.1) (lookup_entry (nat_eq id) es)
  lookup-entry id [] = refl
  lookup-entry id (e ∷ es) = elim (nat_eq id e.0) as (λ b. cond b (Some e.1) (lookup (nat_eq id) es) ≡ option_map (λ e. e.1) (cond b (Some e) (lookup_entry (nat_eq id) es))) [
    | true ↦ refl
    | false ↦ lookup-entry id es
  ]

  moved_other : (id other : ℕ) (es : List (ℕ × V)) (o : Option (ℕ × V)) → lookup_entry (nat_eq id) es ≡ o → other ≢ id
      → lookup (nat_eq other) (option_map_or (λ e. e ∷ remove_entry (nat_eq id) es) o es) ≡ lookup (nat_eq other) es
  moved_other id other es None is h = refl
  moved_other id other es (Some e) is h =
      ap (λ b. cond b (Some e.1) (lookup (nat_eq other) (remove_entry (nat_eq id) es))) (other_number id other e.0 (Contains-lookup_entry (nat_eq id) es e is).1 h)
      ∙ lookup-other id other es h

  moved_own : (id : ℕ) (es : List (ℕ × V)) (o : Option (ℕ × V)) → lookup_entry (nat_eq id) es ≡ o
      → lookup (nat_eq id) (option_map_or (λ e. e ∷ remove_entry (nat_eq id) es) o es) ≡ lookup (nat_eq id) es
  moved_own id es None is = refl
  moved_own id es (Some e) is =
      ap (λ b. cond b (Some e.1) (lookup (nat_eq id) (remove_entry (nat_eq id) es))) (Contains-lookup_entry (nat_eq id) es e is).1
      ∙ sym (lookup-entry id es ∙ ap (option_map (λ e. e.1)) is)

  -- the pair of an id goes first: each id has what it had
  pub lookup-promoted_other : (id other : ℕ) (es : List (ℕ × V)) → other ≢ id → lookup (nat_eq other) (promoted (nat_eq id) es) ≡ lookup (nat_eq other) es
  lookup-promoted_other id other es h = moved_other id other es (lookup_entry (nat_eq id) es) refl h

  pub lookup-promoted : (id : ℕ) (es : List (ℕ × V)) → lookup (nat_eq id) (promoted (nat_eq id) es) ≡ lookup (nat_eq id) es
  lookup-promoted id es = moved_own id es (lookup_entry (nat_eq id) es) refl

  -- of fewer pairs an id has what it had, or nothing
  lookup-take : (other n : ℕ) (es : List (ℕ × V)) → (lookup (nat_eq other) (take n es) ≡ lookup (nat_eq other) es) ⊎ (lookup (nat_eq other) (take n es) ≡ None)
  lookup-take other zero es = inr refl
  lookup-take other (suc n) [] = inl refl
  lookup-take other (suc n) (e ∷ es) = elim (lookup-take other n es) [
    | inl same ↦ inl (ap (cond (nat_eq other e.0) (Some e.1)) same)
    | inr gone ↦ elim (nat_eq other e.0) as (λ b. (cond b (Some e.1) (lookup (nat_eq other) (take n es)) ≡ cond b (Some e.1) (lookup (nat_eq other) es)) ⊎ (cond b (Some e.1) (lookup (nat_eq other) (take n es)) ≡ None)) [
      | true ↦ inl refl
      | false ↦ inr gone
    ]
  ]

  module _ (c : LruCache ℕ V) (id other : ℕ) (v : V) (h : other ≢ id) where
    abbrev after : Option (ℕ × V) → List (ℕ × V)
    after o = option_map_or (λ e. (e.0, v) ∷ remove_entry (nat_eq id) c.entries) o ((id, v) ∷ take (c.cap - 1) c.entries)

    put_found : (e : ℕ × V) → lookup_entry (nat_eq id) c.entries ≡ Some e → lookup (nat_eq other) (after (Some e)) ≡ lookup (nat_eq other) c.entries
    put_found e is =
        ap (λ b. cond b (Some v) (lookup (nat_eq other) (remove_entry (nat_eq id) c.entries))) (other_number id other e.0 (Contains-lookup_entry (nat_eq id) c.entries e is).1 h)
        ∙ lookup-other id other c.entries h

    put_new : lookup (nat_eq other) (after None) ≡ lookup (nat_eq other) (take (c.cap - 1) c.entries)
    put_new = ap (λ b. cond b (Some v) (lookup (nat_eq other) (take (c.cap - 1) c.entries))) (other_number id other id (eq-eqb id id refl) h)

    put_cases : (o : Option (ℕ × V)) → lookup_entry (nat_eq id) c.entries ≡ o → (lookup (nat_eq other) (after o) ≡ lookup (nat_eq other) c.entries) ⊎ (lookup (nat_eq other) (after o) ≡ None)
    put_cases None is = elim (lookup-take other (c.cap - 1) c.entries) [
      | inl same ↦ inl (put_new ∙ same)
      | inr gone ↦ inr (put_new ∙ gone)
    ]
    put_cases (Some e) is = inl (put_found e is)

    -- after a pair was put, another id has what it had, or nothing
    pub lookup-put_other : (lookup (nat_eq other) (put_entries nat_eq c id v) ≡ lookup (nat_eq other) c.entries) ⊎ (lookup (nat_eq other) (put_entries nat_eq c id v) ≡ None)
    lookup-put_other = put_cases (lookup_entry (nat_eq id) c.entries) refl

    put_room : (o : Option (ℕ × V)) → lookup_entry (nat_eq id) c.entries ≡ o → length c.entries < c.cap → lookup (nat_eq other) (after o) ≡ lookup (nat_eq other) c.entries
    put_room None is room = put_new ∙ ap (lookup (nat_eq other)) (take_all (c.cap - 1) c.entries (omega arith))
    put_room (Some e) is room = put_found e is

    -- and what it had where there was room
    pub lookup-put_room : length c.entries < c.cap → lookup (nat_eq other) (put_entries nat_eq c id v) ≡ lookup (nat_eq other) c.entries
    lookup-put_room room = put_room (lookup_entry (nat_eq id) c.entries) refl room
