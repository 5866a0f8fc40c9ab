-- The search for children among what a scan found.
use Rattle.std.proofs.Common.{◌≡◌, ℕ, ◌<◌, ◌≤◌, ◌+◌, Bool, true, false, List, [], ◌∷◌, ◌++◌, ◌⊎◌, inl, inr, length, take, drop, get_or, refl, sym, ap, subst, ◌∙◌, arith, append_assoc, append-nil, length-append}
use Rattle.std.specs.Prelude.{Some, None, nat_lt, ◌==◌}
use Rattle.std.specs.List.{list_all}
use Rattle.std.specs.Ordering.{is_lt}
use Rattle.std.proofs.lemmas.List.{drop_more, take_all, take-append-le, nil_from_length}
use Rattle.std.proofs.Math.Seq.{take-length}
use Rattle.std.proofs.lemmas.Bool.Decides.{nat_tests}
use Rattle.bd_limits.specs.Limits.{listing_limit}
use Rattle.bd_keys.specs.Keys.{IsKey, IsBelow, IsAtLeast, key_cmp}
use Rattle.bd_keys.proofs.Order.{first_less, below_from, not_below_itself, is_lt-less, not_false, key_cmp-front}
use Rattle.bd_names.specs.Names.{is_name_byte, AreNames, key_of}
use Rattle.bd_command.specs.declared.reply.Listed.{Listed}
use Rattle.bd_model.specs.Tree.{is_directory, Tree, IsTree}
use Rattle.bd_model.specs.Step.{children, those_after, listing_of}
use Rattle.bd_model.proofs.Listing.{names_rise}
use Rattle.bd_message.specs.KeyMaps.{At, IsNextEntry}
use Rattle.bd_represent.specs.Represents.{Represents}
use Rattle.bd_scan.specs.declared.scan.Found.{Found}
use Rattle.bd_scan.specs.Scans.{AreNext, IsScan}
use Rattle.bd_dirs.specs.Listings.{first_of, key_after, IsListedTo, IsAdded}
use Rattle.bd_dirs.proofs.ChildOrder.{next_key}
use Rattle.bd_dirs.proofs.Children.{IsChildKey, child_found, next_listed}
use Rattle.bd_dirs.proofs.Listings.{after-more}

-- A search as far as it has come, after so many entries: those that are left come next from a key
-- on that isn't above the one from which the search goes on. After the first there are more names.
pub record IsSearched (at : At) (t : Tree) (path : List (List ℕ)) (all old : List Listed) (left : List Found) (passed : ℕ) (names : List Listed) (from : List ℕ) : Type 0 where
  pub low : List ℕ
  pub next : AreNext at low (key_of path) left
  pub above : IsAtLeast from low
  pub listed : IsListedTo t path all names from
  pub further : ((passed ≡ 0) × (low ≡ from)) ⊎ (length old < length names)

-- what comes next from a key on does so from each key up to it
later_entry : (at : At) (low from within : List ℕ) (f : List ℕ × List ℕ) → IsNextEntry at low within (Some f) → IsAtLeast from low → IsAtLeast f.0 from → IsNextEntry at from within (Some f)
later_entry at low from within f (((some, _, begins), least), stored) above after =
    (((some, after, begins), λ l found. least l (found.0, λ less. found.1 (below_from l low from less above), found.2)), stored)

-- the test says which
pub below_tested : (k l : List ℕ) → is_lt (key_cmp k l) ≡ true → IsBelow k l
below_tested k l = (is_lt-less (key_cmp k l)).0

pub least_tested : (k l : List ℕ) → is_lt (key_cmp k l) ≡ false → IsAtLeast k l
least_tested k l h less = not_false (sym h ∙ ap is_lt less)

-- the key of a child is below the key after it
child_below : (path : List (List ℕ)) (n k : List ℕ) → k ≡ key_of path ++ (n ++ 0 ∷ 0 ∷ 0 ∷ []) → IsBelow k (key_after path (Some n))
child_below path n k is =
    ap (λ (l : List ℕ). key_cmp l (key_after path (Some n))) is ∙ key_cmp-front (key_of path) (n ++ 0 ∷ 0 ∷ 0 ∷ []) (n ++ 1 ∷ [])
    ∙ key_cmp-front n (0 ∷ 0 ∷ 0 ∷ []) (1 ∷ []) ∙ first_less 0 1 (0 ∷ 0 ∷ []) [] (omega arith)

-- a scan, where what was asked and what was found are told otherwise
pub scan_along : (at : At) (from from' within within' : List ℕ) (found found' : List Found) → from ≡ from' → within ≡ within' → found ≡ found' → IsScan at from within found → IsScan at from' within' found'
scan_along at from from' within within' found found' e f g scan =
    subst (λ (k : List ℕ). IsScan at k within' found') e
    (subst (λ (w : List ℕ). IsScan at from w found') f
    (subst (λ (fs : List Found). IsScan at from within fs) g scan))

module _ (at : At) (t : Tree) (path : List (List ℕ)) (all old : List Listed) where
  pub search_begins : (from within : List ℕ) (found : List Found) → within ≡ key_of path → IsListedTo t path all old from → AreNext at from within found → IsSearched at t path all old found 0 old from
  search_begins from within found is listed next = record {
    low = from;
    next = subst (λ (w : List ℕ). AreNext at from w found) is next;
    above = not_below_itself from;
    listed = listed;
    further = inl (refl, refl);
  }

  -- before an entry
  pub search_here : (found : List Found) (i : ℕ) (f : Found) (names : List Listed) (from : List ℕ) → i < length found → f ≡ get_or found i f → IsSearched at t path all old (drop i found) i names from
      → IsSearched at t path all old (f ∷ drop (i + 1) found) i names from
  search_here found i f names from lt is =
      subst (λ (left : List Found). IsSearched at t path all old left i names from) (drop_more found i f lt ∙ ap (λ (x : Found). x ∷ drop (i + 1) found) (sym is))

  module _ (f : Found) (rest : List Found) (passed : ℕ) (names : List Listed) (from : List ℕ) (s : IsSearched at t path all old (f ∷ rest) passed names from) where
    -- an entry below the key from which the search goes on is passed over, and isn't the first one
    pub search_passes : IsBelow f.key from → IsSearched at t path all old rest (passed + 1) names from
    search_passes below = record {
      low = f.key ++ 0 ∷ [];
      next = s.next.1;
      above = next_key f.key from below;
      listed = s.listed;
      further = by s.further;
    }
      where
        by : ((passed ≡ 0) × (s.low ≡ from)) ⊎ (length old < length names) → ((passed + 1 ≡ 0) × ((f.key ++ 0 ∷ []) ≡ from)) ⊎ (length old < length names)
        by (inl (none, same)) = absurd (s.next.0.0.0.1 (subst (λ (l : List ℕ). IsBelow f.key l) (sym same) below))
        by (inr more) = inr more

    -- another is the next one after the last name
    pub search_finds : (key value : List ℕ) → key ≡ f.key → value ≡ f.value → IsAtLeast f.key from → IsNextEntry at (key_after path s.listed.last) (key_of path) (Some (key, value))
    search_finds key value key_is value_is after =
        subst (λ (k : List ℕ). IsNextEntry at (key_after path s.listed.last) (key_of path) (Some (k, value))) (sym key_is)
        (subst (λ (v : List ℕ). IsNextEntry at (key_after path s.listed.last) (key_of path) (Some (f.key, v))) (sym value_is)
        (subst (λ (l : List ℕ). IsNextEntry at l (key_of path) (Some (f.key, f.value))) s.listed.from_is
        (later_entry at s.low from (key_of path) (f.key, f.value) s.next.0 s.above after)))

    pub search_adds : (l : Listed) (more : List Listed) (key : List ℕ) → IsTree t → Represents at t → AreNames path → IsKey f.key → length old ≤ length names → IsAtLeast f.key from
        → Some l ≡ first_of (those_after s.listed.last (children path t)) → more ≡ names ++ l ∷ [] → key ≡ key_after path (Some l.name) → list_all is_name_byte l.name ≡ true
        → IsSearched at t path all old rest (passed + 1) more key
    search_adds l more key tree rep are_names is_key long after first more_is key_is bytes =
        by (those_after s.listed.last (children path t)) refl first
      where
        next : IsNextEntry at (key_after path s.listed.last) (key_of path) (Some (f.key, f.value))
        next = search_finds f.key f.value refl refl after

        child : IsChildKey t path s.listed.last f.key
        child = child_found at t path s.listed.last f.key tree rep are_names s.listed.bytes is_key next.0

        named : child.name ≡ l.name
        named = let is : Some (record { name = child.name; is_dir = is_directory child.entry }) ≡ Some l = sym (next_listed at t path s.listed.last f.key tree rep next.0 child) ∙ sym first in cc

        below : IsBelow f.key key
        below = subst (λ (k : List ℕ). IsBelow f.key k) (ap (λ (n : List ℕ). key_after path (Some n)) named ∙ sym key_is) (child_below path child.name f.key child.is)

        by : (fs : List Listed) → those_after s.listed.last (children path t) ≡ fs → Some l ≡ first_of fs → IsSearched at t path all old rest (passed + 1) more key
        by [] is none = cc
        by (x ∷ others) is one =
            let same : x ≡ l = cc in
            let after_it : those_after (Some l.name) (children path t) ≡ others = after-more s.listed.last (children path t) l others (names_rise t path) (is ∙ ap (λ (y : Listed). y ∷ others) same) in
            record {
              low = f.key ++ 0 ∷ [];
              next = s.next.1;
              above = next_key f.key key below;
              listed = record {
                last = Some l.name;
                bytes = bytes;
                from_is = key_is;
                all_are = s.listed.all_are ∙ ap (λ (ls : List Listed). names ++ ls) (is ∙ ap (λ (y : Listed). y ∷ others) same ∙ ap (λ (ls : List Listed). l ∷ ls) (sym after_it))
                    ∙ sym (append_assoc names (l ∷ []) (those_after (Some l.name) (children path t))) ∙ ap (λ (ls : List Listed). ls ++ those_after (Some l.name) (children path t)) (sym more_is);
              };
              further = inr (omega (arith, ap length more_is, length-append names (l ∷ [])));
            }

-- ---- the end of a listing

-- where one name more follows than there is room for, the listing is whole
pub listing_whole : (t : Tree) (path : List (List ℕ)) (all names : List Listed) (from : List ℕ) (l : Listed) → (listed : IsListedTo t path all names from) → Some l ≡ first_of (those_after listed.last (children path t))
    → length names ≤ listing_limit → listing_limit ≤ length names → record { names = names; more = true } ≡ listing_of all
listing_whole t path all names from l listed first few many = by (those_after listed.last (children path t)) refl first
  where
    full : listing_limit ≡ length names
    full = omega arith

    by : (fs : List Listed) → those_after listed.last (children path t) ≡ fs → Some l ≡ first_of fs → record { names = names; more = true } ≡ listing_of all
    by [] is none = cc
    by (x ∷ others) is one =
        let all_are : all ≡ names ++ x ∷ others = listed.all_are ∙ ap (λ (ls : List Listed). names ++ ls) is in
        let shown : take listing_limit all ≡ names = ap (take listing_limit) all_are ∙ take-append-le listing_limit names (x ∷ others) many ∙ ap (λ (n : ℕ). take n names) full ∙ take-length names in
        let longer : listing_limit < length all = omega (arith, ap length all_are, length-append names (x ∷ others)) in
        let more : nat_lt listing_limit (length all) ≡ true = grind (arith, nat_tests) in
        cc

-- where no name follows, too
pub listing_ends : (t : Tree) (path : List (List ℕ)) (all names : List Listed) (from : List ℕ) → (listed : IsListedTo t path all names from) → first_of (those_after listed.last (children path t)) ≡ None
    → length names ≤ listing_limit → record { names = names; more = false } ≡ listing_of all
listing_ends t path all names from listed none few = by (those_after listed.last (children path t)) refl none
  where
    by : (fs : List Listed) → those_after listed.last (children path t) ≡ fs → first_of fs ≡ None → record { names = names; more = false } ≡ listing_of all
    by (x ∷ others) is one = cc
    by [] is none =
        let all_are : all ≡ names = listed.all_are ∙ ap (λ (ls : List Listed). names ++ ls) is ∙ append-nil names in
        let shown : take listing_limit all ≡ names = take_all listing_limit all (omega (arith, ap length all_are)) ∙ all_are in
        let short : length all ≤ listing_limit = omega (arith, ap length all_are) in
        let more : nat_lt listing_limit (length all) ≡ false = grind (arith, nat_tests) in
        cc

-- the test says whether anything was found
pub any_found : (found : List Found) (test : Bool) → test ≡ (length found == 0) → test ≡ false → 1 ≤ length found
any_found found test is unmet = grind (arith, nat_tests)

pub none_found : (found : List Found) (test : Bool) → test ≡ (length found == 0) → test ≡ true → found ≡ []
none_found found test is met = nil_from_length found (grind (arith, nat_tests))

-- all that was found was looked at
pub search_ends : (at : At) (t : Tree) (path : List (List ℕ)) (all old names : List Listed) (found left : List Found) (from : List ℕ) (passed : ℕ) → passed ≡ length found → IsSearched at t path all old left passed names from
    → IsAdded t path all old names from (length found) false
search_ends at t path all old names found left from passed whole s = record {
  whole = λ never. cc;
  listed = λ _. s.listed;
  further = λ _ some. by s.further some;
}
  where
    by : ((passed ≡ 0) × (s.low ≡ from)) ⊎ (length old < length names) → 1 ≤ length found → length old < length names
    by (inl none) some = absurd (omega (arith, none.0))
    by (inr more) some = more
