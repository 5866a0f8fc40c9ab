-- Where the replies of one tree lead an export, and what is left to write then.
use Rattle.std.proofs.Common.{◌≡◌, ◌≢◌, inl, ℕ, ◌≤◌, List, [], ◌∷◌, ◌++◌, length, Bool, true, false, cond, Option, None, Some, refl, sym, ap, subst, ◌∙◌, append_assoc}
use Rattle.std.specs.Prelude.{◌||◌, nat_le, is_some, IsSome}
use Rattle.std.specs.FinMap.{get}
use Rattle.std.proofs.lemmas.Bool.{leb-true}
use Rattle.bd_limits.specs.Limits.{path_limit}
use Rattle.bd_names.specs.Names.{path_text, parent_of, rest_below}
use Rattle.bd_names.proofs.NamesLaws.{parent_of-append, parent_of-some, rest_below-some}
use Rattle.bd_model.specs.Tree.{Path, Name, Entry, FileWith, Tree, IsTree, has_directory}
use Rattle.bd_model.proofs.Accepted.{absent_below, empty_below}
use Rattle.bd_stream.specs.declared.stage.Stage.{Stage}
use Rattle.bd_stream.specs.declared.stage.Stage.TheVariants.{Look, Piece, Inside, Beside, Whole, Absent, Overlong}
use Rattle.bd_stream.specs.Importing.{short_path}
use Rattle.bd_stream.specs.Streams.{entry_bytes}
use Rattle.bd_stream.specs.Exporting.{Export, Move, put, last_name, closed, next_at, next_in, listed, filed_in, filed}
use Rattle.bd_stream.specs.Exports.{from, beyond, past, ending, rest_of, names_in, IsNext, AreNext, IsOn, Continues}
use Rattle.bd_stream.proofs.OrderLemmas.{is_after, left_in, begins_with, beyond_in, past_in, from_in, past_root}
use Rattle.bd_stream.proofs.EntryLemmas.{ending_agrees, ending_none, ending_next}
use Rattle.bd_stream.proofs.NameLemmas.{Has, no_names, from_first, names_rest, name_there}
use Rattle.bd_stream.proofs.PlaceLemmas.{last_name-append, is_long_path, magic_later}

-- it is one of the tree, and of what was left to write a part was written
pub record Leads (t : Tree) (exported : Path) (left : List ℕ) (m : Move) : Type 0 where
  pub top : m.0.top ≡ exported
  pub on : IsOn t m.0
  pub present : m.0.stage ≢ Absent
  pub written : Continues m.0.stage t left m

pub put_continues : (stage : Stage) (t : Tree) (left bytes : List ℕ) (m : Move) → stage ≢ Absent → Continues stage t left m → Continues stage t (bytes ++ left) (put bytes m)
put_continues Look t left bytes m h is = ap (λ (l : List ℕ). bytes ++ l) is ∙ sym (append_assoc bytes m.1 (rest_of t m.0))
put_continues (Piece off n) t left bytes m h is = ap (λ (l : List ℕ). bytes ++ l) is ∙ sym (append_assoc bytes m.1 (rest_of t m.0))
put_continues Inside t left bytes m h is = ap (λ (l : List ℕ). bytes ++ l) is ∙ sym (append_assoc bytes m.1 (rest_of t m.0))
put_continues Beside t left bytes m h is = ap (λ (l : List ℕ). bytes ++ l) is ∙ sym (append_assoc bytes m.1 (rest_of t m.0))
put_continues Whole t left bytes m h is = ap (λ (l : List ℕ). bytes ++ l) is
put_continues Absent t left bytes m h is = absurd (h refl)
put_continues Overlong t left bytes m h is =
    record {
      below = is.below;
      entry = is.entry;
      there = is.there;
      long = is.long;
      after = is.after;
      next = ap (λ (l : List ℕ). bytes ++ l) is.next ∙ sym (append_assoc bytes m.1 (entry_bytes (is.below, is.entry) ++ is.after));
    }

-- bytes were written before
pub leads_put : (t : Tree) (top : Path) (left bytes : List ℕ) (m : Move) → Leads t top left m → Leads t top (bytes ++ left) (put bytes m)
leads_put t top left bytes m h =
    record { top = h.top; on = h.on; present = h.present; written = put_continues m.0.stage t left bytes m h.present h.written }

-- ---- what is left in other words

or_false : (b : Bool) → (b || false) ≡ b
or_false true = refl
or_false false = refl

-- ---- closing

-- after all at and below a path
pub closed_leads : (t : Tree) (s : Export) (q : Path) (x : Entry) → get t (s.top ++ q) ≡ Some x → IsSome (get t s.top) → Leads t s.top (ending t s.top (past q)) (closed s q)
closed_leads t s [] x there top =
    record {
      top = refl;
      on = top;
      present = λ e. cc;
      written = ending_none t s.top (past []) (λ p y h. past_root p);
    }
closed_leads t s (n ∷ q) x there top =
    record { top = refl; on = (λ e. cc, ap is_some there); present = λ e. cc; written = refl }

-- ---- the next entry

not_root : (d : Path) (n : Name) → d ++ n ∷ [] ≢ []
not_root [] n e = cc
not_root (m ∷ d) n e = cc

pub short_length : (p q : Path) → short_path p ≡ Some q → length (path_text p) ≤ path_limit
short_length p q h = by (nat_le (length (path_text p)) path_limit) refl h
  where
    by : (b : Bool) → nat_le (length (path_text p)) path_limit ≡ b → cond b (Some p) None ≡ Some q → length (path_text p) ≤ path_limit
    by true e is = leb-true (length (path_text p)) path_limit e
    by false e is = cc

top_there : (t : Tree) → IsTree t → (top r : Path) (x : Entry) → get t (top ++ r) ≡ Some x → IsSome (get t top)
top_there t tree top r x there = by (get t top) refl
  where
    by : (o : Option Entry) → get t top ≡ o → is_some o ≡ true
    by None is = absurd (let clash : Some x ≡ None = sym there ∙ absent_below t tree top r is in cc)
    by (Some y) is = refl

-- the first of the names after one in a directory comes next
pub next_leads : (t : Tree) → IsTree t → (s : Export) (d : Path) (lo : Option Name) (n : Name) (ns more : List Name) (P : Path → Bool) → names_in t (s.top ++ d) lo ≡ n ∷ (ns ++ more) → ((p : Path) (x : Entry) → get t (s.top ++ p) ≡ Some x → P p ≡ left_in (is_after lo) d p) → Leads t s.top (ending t s.top P) (next_in s d n ns)
unfolding Has
next_leads t tree s d lo n ns more P names agree = by (short_path (s.top ++ q)) refl
  where
    q : Path
    q = d ++ n ∷ []

    found : ((x : Entry) × (get t ((s.top ++ d) ++ n ∷ []) ≡ Some x)) × (is_after lo n ≡ true)
    found = name_there t (s.top ++ d) lo n (subst (Has n) (sym names) (inl refl))

    there : get t (s.top ++ (d ++ n ∷ [])) ≡ Some found.0.0
    there = ap (get t) (sym (append_assoc s.top d (n ∷ []))) ∙ found.0.1

    same : ending t s.top P ≡ ending t s.top (from (d ++ n ∷ []))
    same = ending_agrees t s.top P (from (d ++ n ∷ [])) (λ p x h. agree p x h ∙ ap (λ (b : Bool). past d p || b) (from_first t tree s.top d lo n (ns ++ more) names p x h) ∙ sym (from_in d p n))

    by : (o : Option Path) → short_path (s.top ++ (d ++ n ∷ [])) ≡ o → Leads t s.top (ending t s.top P) (next_at s (d ++ n ∷ []) ns o)
    by None is =
        record {
          top = refl;
          on = top_there t tree s.top (d ++ n ∷ []) found.0.0 there;
          present = λ e. cc;
          written = record {
            below = d ++ n ∷ [];
            entry = found.0.0;
            there = there;
            long = is_long_path (s.top ++ (d ++ n ∷ [])) is;
            after = ending t s.top (beyond (d ++ n ∷ []));
            next = same ∙ ending_next t s.top (d ++ n ∷ []) found.0.0 there;
          };
        }
    by (Some path) is =
        record {
          top = refl;
          on = record {
            there = λ some. ap is_some there;
            short = short_length (s.top ++ (d ++ n ∷ [])) path is;
            next = subst (λ (o : Option Path). IsNext t s.top o (last_name (d ++ n ∷ [])) ns) (sym (parent_of-append d n))
                (subst (λ (o : Option Name). (m : List Name) × (names_in t (s.top ++ d) o ≡ ns ++ m)) (sym (last_name-append d n)) (more, names_rest t (s.top ++ d) lo n (ns ++ more) names));
          };
          present = λ e. cc;
          written = same ∙ ap (λ (l : List ℕ). l ++ ending t s.top (from (d ++ n ∷ []))) (sym (magic_later (d ++ n ∷ []) (not_root d n)));
        }

-- the names after one in a directory, or none are
pub listed_leads : (t : Tree) → IsTree t → (s : Export) (d : Path) (x : Entry) (lo : Option Name) (names more : List Name) (P : Path → Bool) → get t (s.top ++ d) ≡ Some x → names_in t (s.top ++ d) lo ≡ names ++ more → (names ≡ [] → names_in t (s.top ++ d) lo ≡ []) → ((p : Path) (y : Entry) → get t (s.top ++ p) ≡ Some y → P p ≡ left_in (is_after lo) d p) → Leads t s.top (ending t s.top P) (listed s d names)
listed_leads t tree s d x lo [] more P there whole none agree =
    let same : ending t s.top P ≡ ending t s.top (past d) = ending_agrees t s.top P (past d) (λ p y h. agree p y h ∙ ap (λ (b : Bool). past d p || b) (no_names t tree s.top d lo (none refl) p y h) ∙ or_false (past d p)) in
    subst (λ (l : List ℕ). Leads t s.top l (closed s d)) (sym same) (closed_leads t s d x there (top_there t tree s.top d x there))
listed_leads t tree s d x lo (n ∷ ns) more P there whole none agree = next_leads t tree s d lo n ns more P whole agree

-- ---- after a file

-- nothing stands below a file
file_alone : (t : Tree) → IsTree t → (top q : Path) → has_directory (get t (top ++ q)) ≡ false → (f : Name → Bool) (p : Path) (x : Entry) → get t (top ++ p) ≡ Some x → begins_with f (rest_below q p) ≡ false
file_alone t tree top q other f p x there = by (rest_below q p) refl
  where
    by : (o : Option Path) → rest_below q p ≡ o → begins_with f o ≡ false
    by None is = refl
    by (Some []) is = refl
    by (Some (k ∷ r)) is =
        let gone : get t ((top ++ q) ++ k ∷ r) ≡ None = empty_below t tree (top ++ q) k r other in
        let at : get t ((top ++ q) ++ k ∷ r) ≡ Some x = ap (get t) (append_assoc top q (k ∷ r) ∙ ap (λ (z : Path). top ++ z) (sym (rest_below-some q p (k ∷ r) is))) ∙ there in
        absurd (let clash : Some x ≡ None = sym at ∙ gone in cc)

filed_by : (t : Tree) → IsTree t → (s : Export) (x : Entry) → get t (s.top ++ s.below) ≡ Some x → (o : Option Path) → parent_of s.below ≡ o → (names : List Name) → IsNext t s.top o (last_name s.below) names → Leads t s.top (ending t s.top (past s.below)) (filed_in s o names)
filed_by t tree s x there None above names next = closed_leads t s s.below x there (top_there t tree s.top s.below x there)
filed_by t tree s x there (Some d) above [] next = closed_leads t s s.below x there (top_there t tree s.top s.below x there)
filed_by t tree s x there (Some d) above (n ∷ ns) next =
    let cut = parent_of-some s.below d above in
    let last : last_name s.below ≡ Some cut.0 = ap last_name cut.1 ∙ last_name-append d cut.0 in
    next_leads t tree s d (Some cut.0) n ns next.0 (past s.below) (ap (names_in t (s.top ++ d)) (sym last) ∙ next.1)
    (λ p y h. ap (λ (q : Path). past q p) cut.1 ∙ past_in d p cut.0)

pub filed_leads : (t : Tree) → IsTree t → (s : Export) (mode : ℕ) (bytes : List ℕ) → get t (s.top ++ s.below) ≡ Some (FileWith mode bytes) → AreNext t s → Leads t s.top (ending t s.top (beyond s.below)) (filed s)
filed_leads t tree s mode bytes there next =
    let same : ending t s.top (beyond s.below) ≡ ending t s.top (past s.below) = ending_agrees t s.top (beyond s.below) (past s.below) (λ p y h. beyond_in s.below p ∙ ap (λ (b : Bool). past s.below p || b) (file_alone t tree s.top s.below (ap has_directory there) (is_after None) p y h) ∙ or_false (past s.below p)) in
    subst (λ (l : List ℕ). Leads t s.top l (filed s)) (sym same) (filed_by t tree s (FileWith mode bytes) there (parent_of s.below) refl s.names next)
