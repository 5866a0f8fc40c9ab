-- The text of a path is cut where its last name begins.
use Rattle.std.proofs.Common.{◌≡◌, ◌≢◌, ℕ, zero, suc, ◌+◌, ◌-◌, ◌<◌, ◌≤◌, ◌⊎◌, inl, inr, true, List, [], ◌∷◌, ◌++◌, length, take, drop, get_or, refl, sym, ap, subst, ◌∙◌, arith, append_assoc, append-nil, length-append}
use Rattle.std.specs.Prelude.{not, ◌==◌}
use Rattle.std.proofs.lemmas.Bool.{and_parts, eqb-false, not-true, cases_lt, cases_order}
use Rattle.std.proofs.lemmas.List.{append_cancel_right, take-append-drop, length-take-le, get_or-take, take_at, drop_at, get_or_append_left, get_or-append_right, get_or-append-add, get_or_at}
use Rattle.bd_keys.specs.Keys.{Begins}
use Rattle.bd_names.specs.Names.{is_name, AreNames, key_of}
use Rattle.bd_names.proofs.NamesLaws.{is_free, AreNames-cons, is_name-zero, key_of-cons, key_of-append}
use Rattle.bd_records.specs.declared.Record.{Record}
use Rattle.bd_represent.specs.EntryKeys.{record_key}
use Rattle.bd_dirs.proofs.ChildOrder.{child_key}
use Rattle.bd_entries.specs.Marks.{is_dir, IsChildOf}

-- a text without a zero byte has none at any place
free_at : (n : List ℕ) → is_free 0 n ≡ true → (i : ℕ) → i < length n → get_or n i 0 ≢ 0
free_at [] h i lt = absurd (omega arith)
free_at (b ∷ n) h zero lt = eqb-false b 0 (not-true (b == 0) (and_parts (not (b == 0)) (is_free 0 n) h).0)
free_at (b ∷ n) h (suc i) lt = free_at n (and_parts (not (b == 0)) (is_free 0 n) h).1 i (omega arith)

-- the key of a path ends with a zero byte
ends_with_zero : (p : List (List ℕ)) → 0 < length (key_of p) → get_or (key_of p) (length (key_of p) - 1) 0 ≡ 0
ends_with_zero [] h = absurd (omega arith)
ends_with_zero (n ∷ p) h = by (cases_lt 0 (length (key_of p))) (ends_with_zero p)
  where
    long : length (key_of (n ∷ p)) ≡ length n + (1 + length (key_of p))
    long = omega (arith, ap length (key_of-cons n p), length-append n (0 ∷ key_of p))

    by : (0 < length (key_of p)) ⊎ (length (key_of p) ≤ 0) → (0 < length (key_of p) → get_or (key_of p) (length (key_of p) - 1) 0 ≡ 0) → get_or (key_of (n ∷ p)) (length (key_of (n ∷ p)) - 1) 0 ≡ 0
    by (inl some) ih =
        let place : length (key_of (n ∷ p)) - 1 ≡ length n + suc (length (key_of p) - 1) = omega (arith, long, some) in
        ap (λ (i : ℕ). get_or (key_of (n ∷ p)) i 0) place
        ∙ ap (λ (k : List ℕ). get_or k (length n + suc (length (key_of p) - 1)) 0) (key_of-cons n p)
        ∙ get_or-append-add n (0 ∷ key_of p) (suc (length (key_of p) - 1)) 0
        ∙ ih some
    by (inr none) ih =
        let place : length (key_of (n ∷ p)) - 1 ≡ length n = omega (arith, long, none) in
        ap (λ (i : ℕ). get_or (key_of (n ∷ p)) i 0) place
        ∙ ap (λ (k : List ℕ). get_or k (length n) 0) (key_of-cons n p)
        ∙ get_or_at n 0 (key_of p) 0 (length n) refl

-- a front of the key of a path, of nothing or up to a zero byte, is the key of one above it or of itself
pub front_path : (path : List (List ℕ)) (len : ℕ) → AreNames path → len ≤ length (key_of path) → (0 < len → get_or (key_of path) (len - 1) 0 ≡ 0)
    → (parent : List (List ℕ)) × (below : List (List ℕ)) × (path ≡ parent ++ below) × (length (key_of parent) ≡ len)
front_path [] len names within cut = ([], [], refl, omega arith)
front_path (n ∷ p) len names within cut = by (cases_lt 0 len) (cases_lt (length n) len) (front_path p (len - (length n + 1)) parts.1)
  where
    parts : (is_name n ≡ true) × AreNames p
    parts = AreNames-cons n p names

    long : length (key_of (n ∷ p)) ≡ length n + (1 + length (key_of p))
    long = omega (arith, ap length (key_of-cons n p), length-append n (0 ∷ key_of p))

    -- the cut is in what follows the name
    later : length n < len → 0 < len - (length n + 1) → get_or (key_of p) (len - (length n + 1) - 1) 0 ≡ 0
    later more some =
        let place : len - 1 ≡ length n + suc (len - (length n + 1) - 1) = omega (arith, more, some) in
        sym (ap (λ (i : ℕ). get_or (key_of (n ∷ p)) i 0) place
        ∙ ap (λ (k : List ℕ). get_or k (length n + suc (len - (length n + 1) - 1)) 0) (key_of-cons n p)
        ∙ get_or-append-add n (0 ∷ key_of p) (suc (len - (length n + 1) - 1)) 0)
        ∙ cut (omega (arith, more))

    by : (0 < len) ⊎ (len ≤ 0) → (length n < len) ⊎ (len ≤ length n)
        → (len - (length n + 1) ≤ length (key_of p) → (0 < len - (length n + 1) → get_or (key_of p) (len - (length n + 1) - 1) 0 ≡ 0)
        → (parent : List (List ℕ)) × (below : List (List ℕ)) × (p ≡ parent ++ below) × (length (key_of parent) ≡ len - (length n + 1)))
        → (parent : List (List ℕ)) × (below : List (List ℕ)) × (n ∷ p ≡ parent ++ below) × (length (key_of parent) ≡ len)
    by (inr none) any ih = ([], n ∷ p, refl, omega arith)
    by (inl some) (inr inside) ih =
        absurd (free_at n (is_name-zero n parts.0) (len - 1) (omega arith)
        (sym (get_or_append_left n (0 ∷ key_of p) 0 (len - 1) (omega arith)) ∙ sym (ap (λ (k : List ℕ). get_or k (len - 1) 0) (key_of-cons n p)) ∙ cut some))
    by (inl some) (inl more) ih =
        let rest = ih (omega (arith, long, within)) (later more) in
        (n ∷ rest.0, rest.1, ap (λ (q : List (List ℕ)). n ∷ q) rest.2, omega (arith, ap length (key_of-cons n rest.0), length-append n (0 ∷ key_of rest.0), rest.3, more))

-- ---- where a name begins

-- a text with the place where its last name begins
pub record IsCutAt (text : List ℕ) (start : ℕ) : Type 0 where
  pub within : start ≤ length text
  pub free : (i : ℕ) → start ≤ i → i < length text → get_or text i 0 ≢ 0
  pub cut : 0 < start → get_or text (start - 1) 0 ≡ 0

-- a name after the key of a path begins there
pub cut_once : (text : List ℕ) (start : ℕ) (parent : List (List ℕ)) (n : List ℕ) → IsCutAt text start → is_name n ≡ true → text ≡ key_of parent ++ n → start ≡ length (key_of parent)
cut_once text start parent n at named is = by (cases_order start (length (key_of parent)))
  where
    long : length text ≡ length (key_of parent) + length n
    long = omega (arith, ap length is, length-append (key_of parent) n)

    by : (start ≡ length (key_of parent)) ⊎ ((start < length (key_of parent)) ⊎ (length (key_of parent) < start)) → start ≡ length (key_of parent)
    by (inl same) = same
    by (inr (inl less)) =
        absurd (at.free (length (key_of parent) - 1) (omega (arith, less)) (omega (arith, less, long))
        (ap (λ (t : List ℕ). get_or t (length (key_of parent) - 1) 0) is
        ∙ get_or_append_left (key_of parent) n 0 (length (key_of parent) - 1) (omega (arith, less))
        ∙ ends_with_zero parent (omega (arith, less))))
    by (inr (inr more)) =
        absurd (free_at n (is_name-zero n named) (start - 1 - length (key_of parent)) (omega (arith, more, long, at.within))
        (sym (get_or-append_right (key_of parent) n (length (key_of parent)) (start - 1) 0 refl (omega (arith, more)))
        ∙ ap (λ (t : List ℕ). get_or t (start - 1) 0) (sym is) ∙ at.cut (omega (arith, more))))

-- ---- children

-- what the code asks of a text in front of three zero bytes
pub record IsChildText (path : List ℕ) (entry : Record) (text : List ℕ) (start : ℕ) : Type 0 where
  pub begins : Begins path (take start text)
  pub kind : length path ≤ length (take start text) → is_dir entry ≡ true
  pub named : is_name (drop start text) ≡ true

split_at : (text : List ℕ) (start : ℕ) (front : List ℕ) (name : List ℕ) → text ≡ front ++ name → start ≡ length front → (take start text ≡ front) × (drop start text ≡ name)
split_at text start front name is at =
    (ap (take start) is ∙ take_at front name start (sym at), ap (drop start) is ∙ drop_at front name start (sym at))

-- a child of a directory at the path or above it, by the key of its record
pub record IsChildKey (path : List (List ℕ)) (entry : Record) (key : List ℕ) : Type 0 where
  pub child : List (List ℕ)
  pub is_child : IsChildOf path entry child
  pub key_is : key ≡ record_key child

key_text : (parent : List (List ℕ)) (name key text : List ℕ) → key ≡ record_key (parent ++ name ∷ []) → key ≡ text ++ 0 ∷ 0 ∷ 0 ∷ [] → text ≡ key_of parent ++ name
key_text parent name key text is cut =
    append_cancel_right text (key_of parent ++ name) (0 ∷ 0 ∷ 0 ∷ [])
    (sym cut ∙ is ∙ child_key parent name (0 ∷ 0 ∷ []) ∙ sym (append_assoc (key_of parent) name (0 ∷ 0 ∷ 0 ∷ [])))

pub child_complete : (path : List (List ℕ)) (entry : Record) (key text : List ℕ) (start : ℕ) (child : List (List ℕ)) → IsCutAt text start → key ≡ text ++ 0 ∷ 0 ∷ 0 ∷ [] → IsChildOf path entry child → key ≡ record_key child
    → IsChildText (key_of path) entry text start
child_complete path entry key text start child at cut c key_is = record {
  begins = ap (λ (f : List ℕ). take (length f) (key_of path)) parts.0 ∙ ap (take (length (key_of c.parent))) whole ∙ take_at (key_of c.parent) (key_of c.below) (length (key_of c.parent)) refl ∙ sym parts.0;
  kind = λ short. c.kind (none c.below (omega (arith, short, ap length parts.0, ap length whole, length-append (key_of c.parent) (key_of c.below))));
  named = ap is_name parts.1 ∙ c.named;
}
  where
    text_is : text ≡ key_of c.parent ++ c.name
    text_is = key_text c.parent c.name key text (key_is ∙ ap record_key c.child_is) cut

    parts : (take start text ≡ key_of c.parent) × (drop start text ≡ c.name)
    parts = split_at text start (key_of c.parent) c.name text_is (cut_once text start c.parent c.name at c.named text_is)

    whole : key_of path ≡ key_of c.parent ++ key_of c.below
    whole = ap key_of c.path_is ∙ key_of-append c.parent c.below

    none : (below : List (List ℕ)) → length (key_of below) ≤ 0 → below ≡ []
    none [] h = refl
    none (n ∷ below) h = absurd (omega (arith, ap length (key_of-cons n below), length-append n (0 ∷ key_of below)))

pub child_sound : (path : List (List ℕ)) (entry : Record) (key text : List ℕ) (start : ℕ) → AreNames path → IsCutAt text start → key ≡ text ++ 0 ∷ 0 ∷ 0 ∷ [] → IsChildText (key_of path) entry text start
    → (found : IsChildKey path entry key) × (text ++ 0 ∷ [] ≡ key_of found.child)
child_sound path entry key text start names at cut c = (
  record {
    child = above.0 ++ drop start text ∷ [];
    is_child = record {
      parent = above.0;
      name = drop start text;
      below = above.1;
      child_is = refl;
      path_is = above.2;
      named = c.named;
      kind = λ none. c.kind (omega (arith, ap length front_is, ap length (ap key_of (above.2 ∙ ap (λ (b : List (List ℕ)). above.0 ++ b) none ∙ append-nil above.0))));
    };
    key_is = key_is;
  },
  path_text,
)
  where
    short : length (take start text) ≡ start
    short = length-take-le start text at.within

    whole : key_of path ≡ take start text ++ drop start (key_of path)
    whole =
        sym (take-append-drop start (key_of path)) ∙ ap (λ (f : List ℕ). f ++ drop start (key_of path)) (ap (λ (n : ℕ). take n (key_of path)) (sym short) ∙ c.begins)

    inside : start ≤ length (key_of path)
    inside = omega (arith, ap length whole, length-append (take start text) (drop start (key_of path)), short)

    cut_there : 0 < start → get_or (key_of path) (start - 1) 0 ≡ 0
    cut_there some =
        ap (λ (k : List ℕ). get_or k (start - 1) 0) whole
        ∙ get_or_append_left (take start text) (drop start (key_of path)) 0 (start - 1) (omega (arith, short, some))
        ∙ get_or-take start text (start - 1) 0 (omega (arith, some))
        ∙ at.cut some

    above : (parent : List (List ℕ)) × (below : List (List ℕ)) × (path ≡ parent ++ below) × (length (key_of parent) ≡ start)
    above = front_path path start names inside cut_there

    front_is : take start text ≡ key_of above.0
    front_is =
        sym c.begins ∙ ap (λ (n : ℕ). take n (key_of path)) (short ∙ sym above.3) ∙ ap (take (length (key_of above.0))) (ap key_of above.2 ∙ key_of-append above.0 above.1)
        ∙ take_at (key_of above.0) (key_of above.1) (length (key_of above.0)) refl

    text_is : text ≡ key_of above.0 ++ drop start text
    text_is = sym (take-append-drop start text) ∙ ap (λ (f : List ℕ). f ++ drop start text) front_is

    key_is : key ≡ record_key (above.0 ++ drop start text ∷ [])
    key_is =
        cut ∙ ap (λ (t : List ℕ). t ++ 0 ∷ 0 ∷ 0 ∷ []) text_is ∙ append_assoc (key_of above.0) (drop start text) (0 ∷ 0 ∷ 0 ∷ [])
        ∙ sym (child_key above.0 (drop start text) (0 ∷ 0 ∷ []))

    path_text : text ++ 0 ∷ [] ≡ key_of (above.0 ++ drop start text ∷ [])
    path_text =
        ap (λ (t : List ℕ). t ++ 0 ∷ []) text_is ∙ append_assoc (key_of above.0) (drop start text) (0 ∷ [])
        ∙ sym (child_key above.0 (drop start text) []) ∙ append-nil (key_of (above.0 ++ drop start text ∷ []))

-- ---- what the code finds

-- a key that doesn't end with three zero bytes is no child's
pub no_text : (path : List (List ℕ)) (entry : Record) (key end : List ℕ) → end ≡ 0 ∷ 0 ∷ 0 ∷ [] → ((front : List ℕ) → key ≢ front ++ end) → (child : List (List ℕ)) → IsChildOf path entry child → key ≢ record_key child
no_text path entry key end is none child c key_is =
    none (key_of c.parent ++ c.name)
    (key_is ∙ ap record_key c.child_is ∙ child_key c.parent c.name (0 ∷ 0 ∷ []) ∙ sym (append_assoc (key_of c.parent) c.name (0 ∷ 0 ∷ 0 ∷ [])) ∙ ap (λ (e : List ℕ). (key_of c.parent ++ c.name) ++ e) (sym is))

pub child_text : (path mark_path : List ℕ) (entry : Record) (text front name : List ℕ) (start : ℕ) → mark_path ≡ path → front ≡ take start text → name ≡ drop start text
    → Begins mark_path front × (length mark_path ≤ length front → is_dir entry ≡ true) → is_name name ≡ true → IsChildText path entry text start
child_text path mark_path entry text front name start path_is front_is name_is both named = record {
  begins = subst (λ (f : List ℕ). Begins path f) front_is (subst (λ (p : List ℕ). Begins p front) path_is both.0);
  kind = λ short. both.1 (omega (arith, short, ap length path_is, ap length front_is));
  named = subst (λ (n : List ℕ). is_name n ≡ true) name_is named;
}

pub text_child : (path mark_path : List ℕ) (entry : Record) (text front : List ℕ) (start : ℕ) → mark_path ≡ path → front ≡ take start text → IsChildText path entry text start
    → Begins mark_path front × (length mark_path ≤ length front → is_dir entry ≡ true)
text_child path mark_path entry text front start path_is front_is c =
    (subst (λ (f : List ℕ). Begins mark_path f) (sym front_is) (subst (λ (p : List ℕ). Begins p (take start text)) (sym path_is) c.begins), λ short. c.kind (omega (arith, short, ap length path_is, ap length front_is)))

-- the text and one zero byte are the front of the key
pub text_front : (text key : List ℕ) → key ≡ text ++ 0 ∷ 0 ∷ 0 ∷ [] → take (length text + 1) key ≡ text ++ 0 ∷ []
text_front text key cut =
    ap (take (length text + 1)) (cut ∙ sym (append_assoc text (0 ∷ []) (0 ∷ 0 ∷ []))) ∙ take_at (text ++ 0 ∷ []) (0 ∷ 0 ∷ []) (length text + 1) (omega (arith, length-append text (0 ∷ [])))
