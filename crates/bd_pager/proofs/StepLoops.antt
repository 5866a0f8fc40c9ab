-- How steps change what is known of nodes, one after the other.
use Rattle.std.proofs.Common.{◌≡◌, ℕ, ◌+◌, ◌<◌, ◌≤◌, Bool, true, false, cond, eqb, nat_eq, List, [], ◌∷◌, ◌++◌, length, take, drop, get_or, Option, None, Some, refl, sym, ap, subst, ◌∙◌, arith, inl, inr, append_assoc, append-nil}
use Rattle.std.specs.Prelude.{slice_index}
use Rattle.std.specs.Option.{is_some}
use Rattle.std.specs.Global.{Global}
use Rattle.std.specs.BTreeSet.{BTreeSet}
use Rattle.std.specs.List.{AllByRecursion, IsDistinct}
use Rattle.std.specs.Map.{lookup, keys_of}
use Rattle.std.specs.declared.rc.Rc.{Rc}
use Rattle.std.proofs.lemmas.Bool.{cases_eq, cond-true, cond-false, eq-eqb, ne_eqb}
use Rattle.std.specs.Cmp.{nat_eq_equiv}
use Rattle.std.proofs.lemmas.List.{take_more}
use Rattle.std.proofs.lemmas.Map.{lookup-none}
use Rattle.std.proofs.lemmas.Map.Entries.{lookup_head, lookup_tail, none_past_head}
use Rattle.std.proofs.lemmas.Map.Keys.{IsDistinct-tail}
use Rattle.bd_node.specs.declared.node.Node.{Node}
use Rattle.bd_node.specs.Tables.{one_if}
use Rattle.bd_node.proofs.Lookup.{each_first, each_second, each_both, each_weaker}
use Rattle.bd_node.proofs.Sound.{one_if-same, one_if-other}
use Rattle.bd_counts.specs.Naming.{times_among}
use Rattle.bd_counts.proofs.Names.{times_take, times_first}
use Rattle.bd_pager.specs.declared.place.Spot.{Spot}
use Rattle.bd_pager.specs.declared.stepping.Put.{Put}
use Rattle.bd_pager.specs.declared.usage.Usage.{Usage}
use Rattle.bd_pager.specs.Counting.{dropped, AreUnused, IsListed, IsListedMore, IsTallied}
use Rattle.bd_pager.specs.Places.{Spots}
use Rattle.bd_pager.specs.Stepping.{put_at, put_spot, with_put, with_count, without_all, put_usage}
use Rattle.bd_pager.proofs.TallyLemmas.{put_unused, put_tallied, gone_unused, gone_spare, gone_tallied}

-- ---- nodes that are put, the last one of the list first

-- these are left of all, and the rest was put
pub record IsPutting (spare : List Bool) (all left : List Put) (old new : Spots) : Type 0 where
  pub done : List Put
  pub all_is : left ++ done ≡ all
  pub spots : (id : ℕ) → new id ≡ with_put spare (put_at done id) (old id)

pub putting_begun : (spare : List Bool) (all left : List Put) (old : Spots) → left ≡ all → IsPutting spare all left old old
putting_begun spare all left old is = record { done = []; all_is = append-nil left ∙ is; spots = λ id. refl }

pub put_twice : (spare : List Bool) (node : Rc Node Global) (put : Option (Rc Node Global)) (old : Option Spot) → put_spot spare node (with_put spare put old) ≡ put_spot spare node old
put_twice spare node None old = refl
put_twice spare node (Some other) old = refl

-- one more
pub put_more : (spare : List Bool) (all left rest : List Put) (p : Put) (old mid new : Spots) → left ≡ rest ++ p ∷ []
    → ((id : ℕ) → new id ≡ cond (eqb p.id id) (Some (put_spot spare p.node (mid p.id))) (mid id)) → IsPutting spare all left old mid → IsPutting spare all rest old new
put_more spare all left rest p old mid new is one h = record {
  done = p ∷ h.done;
  all_is = sym (append_assoc rest (p ∷ []) h.done) ∙ ap (λ (xs : List Put). xs ++ h.done) (sym is) ∙ h.all_is;
  spots = λ id. one id ∙ elim (cases_eq id p.id) [
    | inl same ↦
        cond-true (eqb p.id id) (Some (put_spot spare p.node (mid p.id))) (mid id) (eq-eqb p.id id (sym same))
        ∙ ap (λ (k : ℕ). Some (put_spot spare p.node (mid k))) (sym same)
        ∙ ap (λ (o : Option Spot). Some (put_spot spare p.node o)) (h.spots id)
        ∙ ap Some (put_twice spare p.node (put_at h.done id) (old id))
        ∙ sym (ap (λ (o : Option (Rc Node Global)). with_put spare o (old id)) (cond-true (eqb id p.id) (Some p.node) (put_at h.done id) (eq-eqb id p.id same)))
    | inr other ↦
        cond-false (eqb p.id id) (Some (put_spot spare p.node (mid p.id))) (mid id) (ne_eqb p.id id (λ e. other (sym e)))
        ∙ h.spots id
        ∙ sym (ap (λ (o : Option (Rc Node Global)). with_put spare o (old id)) (cond-false (eqb id p.id) (Some p.node) (put_at h.done id) (ne_eqb id p.id other)))
  ];
}

pub put_done : (spare : List Bool) (all left : List Put) (old new : Spots) → left ≡ [] → IsPutting spare all left old new → (id : ℕ) → new id ≡ with_put spare (put_at all id) (old id)
put_done spare all left old new none h id =
    h.spots id ∙ ap (λ (ps : List Put). with_put spare (put_at ps id) (old id)) (ap (λ (xs : List Put). xs ++ h.done) (sym none) ∙ h.all_is)

-- ---- counts, the first one first

-- what is left of the counts leads to where all of them lead
pub record IsSetting (all left : List (ℕ × ℕ)) (old new : Spots) : Type 0 where
  pub apart : IsDistinct nat_eq (keys_of left)
  pub spots : (id : ℕ) → with_count (lookup (nat_eq id) left) (new id) ≡ with_count (lookup (nat_eq id) all) (old id)

pub setting_begun : (all left : List (ℕ × ℕ)) (old : Spots) → left ≡ all → IsDistinct nat_eq (keys_of left) → IsSetting all left old old
setting_begun all left old is apart = record {
  apart = apart;
  spots = λ id. ap (λ (es : List (ℕ × ℕ)). with_count (lookup (nat_eq id) es) (old id)) is;
}

pub count_more : (all left rest : List (ℕ × ℕ)) (e : ℕ × ℕ) (old mid new : Spots) → left ≡ e ∷ rest → ((id : ℕ) → new id ≡ cond (eqb e.0 id) (with_count (Some e.1) (mid e.0)) (mid id))
    → IsSetting all left old mid → IsSetting all rest old new
count_more all left rest e old mid new is one h =
    let apart : IsDistinct nat_eq (keys_of (e ∷ rest)) = subst (λ (es : List (ℕ × ℕ)). IsDistinct nat_eq (keys_of es)) is h.apart in
    let before : (id : ℕ) → with_count (lookup (nat_eq id) (e ∷ rest)) (mid id) ≡ with_count (lookup (nat_eq id) all) (old id) =
    subst (λ (es : List (ℕ × ℕ)). (id : ℕ) → with_count (lookup (nat_eq id) es) (mid id) ≡ with_count (lookup (nat_eq id) all) (old id)) is h.spots in
    record {
      apart = IsDistinct-tail nat_eq e.0 (keys_of rest) apart;
      spots = λ id. elim (cases_eq id e.0) [
        | inl same ↦
            let here : nat_eq id e.0 ≡ true = eq-eqb id e.0 same in
            let none : lookup (nat_eq id) rest ≡ None = lookup-none (nat_eq id) rest (none_past_head nat_eq_equiv id e rest apart here) in
            let own : lookup (nat_eq id) (e ∷ rest) ≡ Some e.1 = lookup_head (nat_eq id) e rest here in
            ap (λ (o : Option ℕ). with_count o (new id)) none
            ∙ one id
            ∙ cond-true (eqb e.0 id) (with_count (Some e.1) (mid e.0)) (mid id) (eq-eqb e.0 id (sym same))
            ∙ ap (λ (k : ℕ). with_count (Some e.1) (mid k)) (sym same)
            ∙ sym (ap (λ (o : Option ℕ). with_count o (mid id)) own)
            ∙ before id
        | inr other ↦
            ap (λ (o : Option Spot). with_count (lookup (nat_eq id) rest) o)
            (one id ∙ cond-false (eqb e.0 id) (with_count (Some e.1) (mid e.0)) (mid id) (ne_eqb e.0 id (λ s. other (sym s))))
            ∙ sym (ap (λ (o : Option ℕ). with_count o (mid id)) (lookup_tail (nat_eq id) e rest (ne_eqb id e.0 other)))
            ∙ before id
      ];
    }

pub count_done : (all left : List (ℕ × ℕ)) (old new : Spots) → left ≡ [] → IsSetting all left old new → (id : ℕ) → new id ≡ with_count (lookup (nat_eq id) all) (old id)
count_done all left old new none h id = sym (ap (λ (es : List (ℕ × ℕ)). with_count (lookup (nat_eq id) es) (new id)) none) ∙ h.spots id

-- ---- ids that are given up

pub none_gone : {X : Type 0} (gone : List ℕ) (old : ℕ → Option X) (id : ℕ) → old id ≡ without_all (take 0 gone) id (old id)
none_gone gone old id = refl

pub gone_more : {X : Type 0} (gone : List ℕ) (i : ℕ) (old mid new : ℕ → Option X) → i < length gone
    → ((id : ℕ) → new id ≡ cond (eqb (slice_index gone i) id) None (mid id)) → ((id : ℕ) → mid id ≡ without_all (take i gone) id (old id))
    → (id : ℕ) → new id ≡ without_all (take (i + 1) gone) id (old id)
gone_more {X} gone i old mid new low one before id =
    let x : ℕ = slice_index gone i in
    let more : times_among (take (i + 1) gone) id ≡ times_among (take i gone) id + one_if x id = times_take gone i low id in
    one id ∙ elim (cases_eq x id) [
      | inl same ↦
          let here : one_if x id ≡ 1 = subst (λ (k : ℕ). one_if x k ≡ 1) same (one_if-same x) in
          cond-true (eqb x id) None (mid id) (eq-eqb x id same)
          ∙ sym (cond-false (eqb (times_among (take (i + 1) gone) id) 0) (old id) None (ne_eqb (times_among (take (i + 1) gone) id) 0 (λ e. omega (arith, e, more, here))))
      | inr other ↦
          let none : one_if x id ≡ 0 = one_if-other x id other in
          let same : times_among (take (i + 1) gone) id ≡ times_among (take i gone) id = omega (arith, more, none) in
          cond-false (eqb x id) None (mid id) (ne_eqb x id other)
          ∙ before id
          ∙ sym (ap (λ (n : ℕ). cond (eqb n 0) (old id) None) same)
    ]

-- ---- ids for which nodes are put, the first one first

none_either : {X : Type 0} (b : Bool) → ◌≡◌ {A = Option X} (cond b None None) None
none_either true = refl
none_either false = refl

abbrev pub unless_put : {X : Type 0} → List Put → ℕ → Option X → Option X
unless_put puts id old = cond (is_some (put_at puts id)) None old

pub put_next : {X : Type 0} (puts : List Put) (i : ℕ) (p : Put) (old mid new : ℕ → Option X) → drop i puts ≡ p ∷ drop (i + 1) puts
    → ((id : ℕ) → new id ≡ cond (eqb p.id id) None (mid id)) → ((id : ℕ) → unless_put (drop i puts) id (mid id) ≡ unless_put puts id (old id))
    → (id : ℕ) → unless_put (drop (i + 1) puts) id (new id) ≡ unless_put puts id (old id)
put_next {X} puts i p old mid new is one before id =
    let rest : List Put = drop (i + 1) puts in
    let now : unless_put (p ∷ rest) id (mid id) ≡ unless_put puts id (old id) = ap (λ (ps : List Put). unless_put ps id (mid id)) (sym is) ∙ before id in
    elim (cases_eq id p.id) [
      | inl same ↦
          ap (λ (o : Option X). unless_put rest id o) (one id ∙ cond-true (eqb p.id id) None (mid id) (eq-eqb p.id id (sym same)))
          ∙ none_either (is_some (put_at rest id))
          ∙ sym (ap (λ (o : Option (Rc Node Global)). cond (is_some o) None (mid id)) (cond-true (eqb id p.id) (Some p.node) (put_at rest id) (eq-eqb id p.id same)))
          ∙ now
      | inr other ↦
          ap (λ (o : Option X). unless_put rest id o) (one id ∙ cond-false (eqb p.id id) None (mid id) (ne_eqb p.id id (λ e. other (sym e))))
          ∙ sym (ap (λ (o : Option (Rc Node Global)). cond (is_some o) None (mid id)) (cond-false (eqb id p.id) (Some p.node) (put_at rest id) (ne_eqb id p.id other)))
          ∙ now
    ]

-- ---- ids of nodes that are put

module _ (P : ℕ → Type 0) where
  -- what holds of the ids of all holds of that of one of them
  pub put_has : (all left rest done : List Put) (p : Put) → left ++ done ≡ all → left ≡ rest ++ p ∷ [] → AllByRecursion (λ (put : Put). P put.id) all → P p.id
  put_has all left rest done p all_is is each =
      (each_second (λ (put : Put). P put.id) rest (p ∷ [])
      (subst (λ (xs : List Put). AllByRecursion (λ (put : Put). P put.id) xs) is
      (each_first (λ (put : Put). P put.id) left done (subst (λ (xs : List Put). AllByRecursion (λ (put : Put). P put.id) xs) (sym all_is) each)))).0

-- one more id is listed
pub listed_more : (puts : List Put) (i : ℕ) (p : Put) (was now : BTreeSet ℕ) → i < length puts → p ≡ get_or puts i p → ((id : ℕ) → IsListed was id → IsListed now id) → IsListed now p.id
    → AllByRecursion (λ (put : Put). IsListed was put.id) (take i puts) → AllByRecursion (λ (put : Put). IsListed now put.id) (take (i + 1) puts)
listed_more puts i p was now low is more listed before =
    subst (λ (ps : List Put). AllByRecursion (λ (put : Put). IsListed now put.id) ps) (sym (take_more puts i p low))
    (each_both (λ (put : Put). IsListed now put.id) (take i puts) (get_or puts i p ∷ [])
    (each_weaker (λ (put : Put). IsListed was put.id) (λ (put : Put). IsListed now put.id) (λ put l. more put.id l) (take i puts) before)
    (subst (λ (put : Put). IsListed now put.id) is listed, tt))

pub listed_both : (a b c : Usage) → IsListedMore a b → IsListedMore b c → IsListedMore a c
listed_both a b c p q = record {
  same = q.same ∙ ap (λ (u : Usage). let v : Usage = record u { listed = c.listed } in v) p.same;
  kept = λ id l. q.kept id (p.kept id l);
}

-- ---- what is used meanwhile

-- the nodes that aren't left were put, and counted
pub record ArePut (all left : List Put) (spots : Spots) (u : Usage) (new : Spots) (now : Usage) : Type 0 where
  pub putting : IsPutting u.spare all left spots new
  pub spare_is : now.spare ≡ u.spare
  pub listed_is : now.listed ≡ u.listed
  pub unused : AreUnused now.spare now.free new
  pub tallied : (next : ℕ) → AllByRecursion (λ (put : Put). put.id < next) all → IsTallied next spots u → IsTallied next new now

pub put_begun : (all left : List Put) (spots : Spots) (u : Usage) → left ≡ all → AreUnused u.spare u.free spots → ArePut all left spots u spots u
put_begun all left spots u is unused = record { putting = putting_begun u.spare all left spots is; spare_is = refl; listed_is = refl; unused = unused; tallied = λ next below was. was }

pub put_then : (all left rest : List Put) (p : Put) (spots mid new : Spots) (u was now : Usage) → left ≡ rest ++ p ∷ [] → AllByRecursion (λ (put : Put). IsListed u.listed put.id) all
    → ((id : ℕ) → new id ≡ cond (eqb p.id id) (Some (put_spot was.spare p.node (mid p.id))) (mid id)) → now ≡ put_usage (mid p.id) was → ArePut all left spots u mid was → ArePut all rest spots u new now
put_then all left rest p spots mid new u was now is listed one usage h =
    let same : (id : ℕ) → (id ≡ p.id → ⊥) → new id ≡ mid id = λ id other. one id ∙ cond-false (eqb p.id id) (Some (put_spot was.spare p.node (mid p.id))) (mid id) (ne_eqb p.id id (λ e. other (sym e))) in
    let here : new p.id ≡ Some (put_spot was.spare p.node (mid p.id)) = one p.id ∙ cond-true (eqb p.id p.id) (Some (put_spot was.spare p.node (mid p.id))) (mid p.id) (eq-eqb p.id p.id refl) in
    subst (λ (v : Usage). ArePut all rest spots u new v) (sym usage) (record {
      putting = put_more u.spare all left rest p spots mid new is
          (subst (λ (s : List Bool). (id : ℕ) → new id ≡ cond (eqb p.id id) (Some (put_spot s p.node (mid p.id))) (mid id)) h.spare_is one) h.putting;
      spare_is = h.spare_is;
      listed_is = h.listed_is;
      unused = put_unused was.spare was.free p.id p.node mid new same here h.unused;
      tallied = λ next below tallied.
          put_tallied was next p.id p.node mid new same here (put_has (λ id. id < next) all left rest h.putting.done p h.putting.all_is is below)
          (subst (λ (ids : BTreeSet ℕ). IsListed ids p.id) (sym h.listed_is) (put_has (IsListed u.listed) all left rest h.putting.done p h.putting.all_is is listed))
          (h.tallied next below tallied);
    })

-- the nodes of these ids are gone, and counted no more
pub record AreDropped (gone all : List ℕ) (spots : Spots) (u : Usage) (new : Spots) (now : Usage) : Type 0 where
  pub spots_are : (id : ℕ) → new id ≡ without_all gone id (spots id)
  pub spare_is : now.spare ≡ u.spare
  pub unused : AreUnused now.spare now.free new
  pub tallied : (next : ℕ) → ((id : ℕ) → 1 ≤ times_among all id → id < next) → IsTallied next spots u → IsTallied next new now

pub dropped_begun : (all : List ℕ) (spots : Spots) (u : Usage) → AreUnused u.spare u.free spots → AreDropped (take 0 all) all spots u spots u
dropped_begun all spots u unused = record { spots_are = λ id. refl; spare_is = refl; unused = unused; tallied = λ next below was. was }

pub dropped_then : (all : List ℕ) (i : ℕ) (spots mid new : Spots) (u was now : Usage) → i < length all
    → ((id : ℕ) → new id ≡ cond (eqb (slice_index all i) id) None (mid id)) → now ≡ dropped was (mid (slice_index all i)) → AreDropped (take i all) all spots u mid was
    → AreDropped (take (i + 1) all) all spots u new now
dropped_then all i spots mid new u was now low one usage h =
    let x : ℕ = slice_index all i in
    let same : (id : ℕ) → (id ≡ x → ⊥) → new id ≡ mid id = λ id other. one id ∙ cond-false (eqb x id) None (mid id) (ne_eqb x id (λ e. other (sym e))) in
    let here : new x ≡ None = one x ∙ cond-true (eqb x x) None (mid x) (eq-eqb x x refl) in
    let among : 1 ≤ times_among all x = omega (arith, times_take all i low x, one_if-same x, times_first all (i + 1) x) in
    subst (λ (v : Usage). AreDropped (take (i + 1) all) all spots u new v) (sym usage) (record {
      spots_are = gone_more all i spots mid new low one h.spots_are;
      spare_is = gone_spare was x mid new same here ∙ h.spare_is;
      unused = gone_unused was x mid new same here h.unused;
      tallied = λ next below tallied. gone_tallied was x mid new same here next (below x among) (h.tallied next below tallied);
    })
