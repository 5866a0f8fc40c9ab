-- Which of listed ids comes first.
use Rattle.std.proofs.Common.{◌≡◌, ◌≢◌, ℕ, ◌⊎◌, Bool, true, false, ◌||◌, IsTrue, List, [], ◌∷◌, refl, sym, ap, subst, ◌∙◌, arith, inl, inr}
use Rattle.std.specs.BTreeMap.{is_at}
use Rattle.std.specs.BTreeSet.{BTreeSet}
use Rattle.std.specs.Cmp.{nat_cmp_is}
use Rattle.std.specs.List.{list_any}
use Rattle.std.specs.Ordering.{nat_cmp, is_eq}
use Rattle.std.specs.declared.cmp.Ordering.TheVariants.{Equal}
use Rattle.std.proofs.lemmas.Bool.{cases_eq, cases_lt}
use Rattle.bd_pager.specs.Counting.{IsListed}
use Rattle.bd_pager.specs.Moving.{ComesFirst, IsBefore}
use Rattle.bd_pager.specs.Places.{Spots, level_in}
use Rattle.bd_pager.proofs.CountingLemmas.{apart_at}

-- ---- listed ids

abbrev pub IsAmong : List ℕ → ℕ → Type 0
IsAmong ids id = IsTrue (list_any (is_at (nat_cmp id)) ids)

among_first : (x : ℕ) (rest : List ℕ) → IsAmong (x ∷ rest) x
among_first x rest = ap (λ (b : Bool). b || list_any (is_at (nat_cmp x)) rest) (sym (ap is_eq (nat_cmp_is x x Equal refl)))

among_cases : (x : ℕ) (rest : List ℕ) (other : ℕ) → IsAmong (x ∷ rest) other → (other ≡ x) ⊎ IsAmong rest other
among_cases x rest other on = elim (cases_eq other x) [
  | inl same ↦ inl same
  | inr apart ↦ inr (ap (λ (b : Bool). b || list_any (is_at (nat_cmp other)) rest) (sym (apart_at other x apart)) ∙ on)
]

among_rest : (x : ℕ) (rest : List ℕ) (other : ℕ) → IsAmong rest other → IsAmong (x ∷ rest) other
among_rest x rest other on = elim (cases_eq other x) [
  | inl same ↦ subst (λ (k : ℕ). IsAmong (x ∷ rest) k) (sym same) (among_first x rest)
  | inr apart ↦ ap (λ (b : Bool). b || list_any (is_at (nat_cmp other)) rest) (apart_at other x apart) ∙ on
]

-- each listed id is still to come, or this holds of it
pub record IsOver (P : ℕ → Type 0) (ids : BTreeSet ℕ) (left : List ℕ) : Type 0 where
  pub listed : (id : ℕ) → IsAmong left id → IsListed ids id
  pub each : (id : ℕ) → IsListed ids id → IsAmong left id ⊎ P id

pub over_all : (P : ℕ → Type 0) (ids : BTreeSet ℕ) → IsOver P ids ids.keys
over_all P ids = record { listed = λ id on. on; each = λ id on. inl on }

pub over_here : (P : ℕ → Type 0) (ids : BTreeSet ℕ) (left rest : List ℕ) (x : ℕ) → left ≡ x ∷ rest → IsOver P ids left → IsListed ids x
over_here P ids left rest x is was = was.listed x (subst (λ (l : List ℕ). IsAmong l x) (sym is) (among_first x rest))

pub over_next : (P Q : ℕ → Type 0) (ids : BTreeSet ℕ) (left rest : List ℕ) (x : ℕ) → left ≡ x ∷ rest → ((id : ℕ) → P id → Q id) → Q x → IsOver P ids left → IsOver Q ids rest
over_next P Q ids left rest x is weaker here was = record {
  listed = λ id on. was.listed id (subst (λ (l : List ℕ). IsAmong l id) (sym is) (among_rest x rest id on));
  each = λ id on. elim (was.each id on) [
    | inl still ↦ elim (among_cases x rest id (subst (λ (l : List ℕ). IsAmong l id) is still)) [
      | inl same ↦ inr (subst Q (sym same) here)
      | inr later ↦ inl later
    ]
    | inr done ↦ inr (weaker id done)
  ];
}

pub over_done : (P : ℕ → Type 0) (ids : BTreeSet ℕ) (left : List ℕ) → left ≡ [] → IsOver P ids left → (id : ℕ) → IsListed ids id → P id
over_done P ids left is was id on = elim (was.each id on) [
  | inl still ↦ absurd (let e : false ≡ true = subst (λ (l : List ℕ). IsAmong l id) is still in cc)
  | inr done ↦ done
]

-- ---- which comes first

first_then : (spots : Spots) (a b c : ℕ) → ComesFirst spots a b → ComesFirst spots b c → ComesFirst spots a c
first_then spots a b c (inl p) (inl q) = inl (omega (arith, p, q))
first_then spots a b c (inl p) (inr q) = inl (omega (arith, p, q.0))
first_then spots a b c (inr p) (inl q) = inl (omega (arith, p.0, q))
first_then spots a b c (inr p) (inr q) = inr (p.0 ∙ q.0, omega (arith, p.1, q.1))

first_or : (spots : Spots) (a b : ℕ) → a ≢ b → ComesFirst spots a b ⊎ ComesFirst spots b a
first_or spots a b apart = elim (cases_lt (level_in (spots a)) (level_in (spots b))) [
  | inl lower ↦ inl (inl lower)
  | inr no_lower ↦ elim (cases_eq (level_in (spots a)) (level_in (spots b))) [
    | inl same ↦ elim (cases_lt a b) [
      | inl less ↦ inl (inr (same, less))
      | inr more ↦ inr (inr (sym same, omega (arith, more, apart)))
    ]
    | inr differ ↦ inr (inl (omega (arith, no_lower, differ)))
  ]
]

before_then : (root : ℕ) (spots : Spots) (a b c : ℕ) → IsBefore root spots a b → IsBefore root spots b c → IsBefore root spots a c
before_then root spots a b c p q = (
  p.0,
  elim q.1 [
    | inl last ↦ inl last
    | inr next ↦ elim p.1 [
      | inl is_root ↦ absurd (q.0 is_root)
      | inr first ↦ inr (first_then spots a b c first next)
    ]
  ],
)

-- the one that is first so far comes before another
abbrev pub IsFirstOf : ℕ → Spots → ℕ → ℕ → Type 0
IsFirstOf root spots first other = other ≢ first → IsBefore root spots first other

pub first_now : (root : ℕ) (spots : Spots) (x first : ℕ) → IsBefore root spots x first → (other : ℕ) → IsFirstOf root spots first other → IsFirstOf root spots x other
first_now root spots x first is other was = λ apart. elim (cases_eq other first) [
  | inl same ↦ subst (λ (k : ℕ). IsBefore root spots x k) (sym same) is
  | inr differ ↦ before_then root spots x first other is (was differ)
]

pub first_still : (root : ℕ) (spots : Spots) (x first : ℕ) → ¬ IsBefore root spots x first → IsFirstOf root spots first x
first_still root spots x first isnt = λ apart. elim (cases_eq x root) [
  | inl is_root ↦ (λ same. apart (is_root ∙ sym same), inl is_root)
  | inr other ↦ elim (cases_eq first root) [
    | inl is_root ↦ absurd (isnt (other, inl is_root))
    | inr also ↦ (
      also,
      elim (first_or spots x first apart) [
        | inl before ↦ absurd (isnt (other, inr before))
        | inr after ↦ inr after
      ],
    )
  ]
]
