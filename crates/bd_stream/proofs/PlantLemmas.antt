-- The commands of a stream make its subtree.
use Rattle.std.proofs.Common.{◌≡◌, ◌≢◌, ◌⊎◌, inl, inr, ℕ, zero, suc, ◌+◌, ◌-◌, ◌≤◌, List, [], ◌∷◌, ◌++◌, length, take, drop, replicate, Bool, true, false, T, cond, Option, None, Some, Less, refl, sym, ap, subst, ◌∙◌, arith, append_assoc, append-nil, length-append}
use Rattle.std.specs.Prelude.{is_some, IsSome, IfSome, ◌==◌}
use Rattle.std.specs.List.{flat_map, AllByRecursion}
use Rattle.std.specs.Option.{option_or, option_and_then}
use Rattle.std.specs.Ordering.{is_lt}
use Rattle.std.specs.FinMap.{get, find, is_sorted}
use Rattle.std.specs.FinMap.Entries.{below_all}
use Rattle.std.specs.declared.cmp.Ordering.{Ordering}
use Rattle.std.proofs.lemmas.Bool.{le-leb, eqb-true}
use Rattle.std.proofs.lemmas.List.{take-append-drop, length-take, append_cancel_left, drop_all}
use Rattle.std.proofs.Math.Seq.{take-length}
use Rattle.bd_limits.specs.Limits.{file_limit, write_limit}
use Rattle.bd_keys.specs.Edits.{resized, overwritten}
use Rattle.bd_names.specs.Names.{is_under, parent_of}
use Rattle.bd_names.proofs.NamesLaws.{parent_of-some, parent_of-none, parent_of-append, is_under-append, is_under-rest}
use Rattle.bd_command.specs.declared.Command.{Command}
use Rattle.bd_command.specs.declared.Command.TheVariants.{Mkdir, Create, Write, Chmod}
use Rattle.bd_command.specs.declared.refusal.Refusal.TheVariants.{TooBig}
use Rattle.bd_model.specs.Tree.{Path, Name, Entry, Directory, FileWith, Tree, IsTree, IsEntry, path_cmp, has_directory}
use Rattle.bd_model.specs.Step.{Placed, file_bytes, with_bytes, with_mode, absent_refusal, file_refusal, parent_refusal, place_refusal, new_refusal, size_refusal}
use Rattle.bd_model.specs.Laws.{Accepts, after}
use Rattle.bd_model.proofs.Accepted.{absent_below}
use Rattle.bd_model.proofs.PathOrder.{same_path-refl, same_path-false, one_or_apart}
use Rattle.bd_model.proofs.TreeLaws.{after-made, after-others, after-chmod}
use Rattle.bd_stream.specs.Importing.{making, moding, head_commands}
use Rattle.bd_stream.specs.Streams.{head_at, writes_at, entry_commands, entries_at}
use Rattle.bd_stream.specs.Planting.{after_all, AreAccepted, IsFree, IsPlanted, planting}
use Rattle.bd_stream.proofs.PlaceLemmas.{parent_below}
use Rattle.bd_stream.proofs.TreeOrderLemmas.{front_less}
use Rattle.bd_stream.proofs.EntryLemmas.{first, second, both, at_sorted, at_there, found_at, not_found, all_above}

-- commands are accepted, leave an entry at a path, and all else as it was
record Does (v : Tree) (cs : List Command) (p : Path) (x : Entry) : Type 0 where
  pub accepted : AreAccepted v cs
  pub there : get (after_all v cs) p ≡ Some x
  pub beside : (q : Path) → q ≢ p → get (after_all v cs) q ≡ get v q

-- ---- one after the other

after_both : (v : Tree) (cs ds : List Command) → after_all v (cs ++ ds) ≡ after_all (after_all v cs) ds
after_both v [] ds = refl
after_both v (a ∷ cs) ds = after_both (after v a) cs ds

accepts_both : (v : Tree) (cs ds : List Command) → AreAccepted v cs → AreAccepted (after_all v cs) ds → AreAccepted v (cs ++ ds)
accepts_both v [] ds h k = k
accepts_both v (a ∷ cs) ds h k = (h.0, accepts_both (after v a) cs ds h.1 k)

does_both : (v : Tree) (cs ds : List Command) (p : Path) (x y : Entry) → Does v cs p x → Does (after_all v cs) ds p y → Does v (cs ++ ds) p y
does_both v cs ds p x y h k =
    record {
      accepted = accepts_both v cs ds h.accepted k.accepted;
      there = ap (λ (t : Tree). get t p) (after_both v cs ds) ∙ k.there;
      beside = λ q differ. ap (λ (t : Tree). get t q) (after_both v cs ds) ∙ k.beside q differ ∙ h.beside q differ;
    }

-- ---- the entry itself

fresh : Option ℕ → Entry
fresh None = Directory 0
fresh (Some n) = FileWith 0 []

does_make : (v : Tree) (p : Path) (len : Option ℕ) → new_refusal v p ≡ None → Does v (making len p ∷ []) p (fresh len)
unfolding fresh
does_make v p None ok =
    record {
      accepted = (ok, tt);
      there = after-made v (Mkdir p) p (Directory 0) ok refl;
      beside = λ q differ. after-others v (Mkdir p) p (Directory 0) q refl differ;
    }
does_make v p (Some n) ok =
    record {
      accepted = (ok, tt);
      there = after-made v (Create p) p (FileWith 0 []) ok refl;
      beside = λ q differ. after-others v (Create p) p (FileWith 0 []) q refl differ;
    }

-- its mode
mode_by : (v : Tree) (p : Path) (mode : ℕ) (x : Entry) (none : Bool) → (none ≡ true → with_mode mode (Some x) ≡ x) → get v p ≡ Some x → Does v (cond none [] (Chmod p mode ∷ [])) p (with_mode mode (Some x))
mode_by v p mode x true same there = record { accepted = tt; there = there ∙ ap (λ (e : Entry). Some e) (sym (same refl)); beside = λ q differ. refl }
mode_by v p mode x false same there =
    record {
      accepted = (ap absent_refusal there, tt);
      there = after-chmod v p mode x there;
      beside = λ q differ. after-others v (Chmod p mode) p (with_mode mode (get v p)) q refl differ;
    }

made : Entry → Entry
made (Directory mode) = Directory mode
made (FileWith mode bytes) = FileWith mode []

head_does : (v : Tree) (p q : Path) (x : Entry) → new_refusal v p ≡ None → Does v (head_commands (head_at (q, x)) p) p (made x)
unfolding made fresh
head_does v p q (Directory mode) ok =
    let make = does_make v p None ok in
    does_both v (Mkdir p ∷ []) (moding mode p) p (Directory 0) (Directory mode) make
    (mode_by (after v (Mkdir p)) p mode (Directory 0) (mode == 0) (λ e. ap (λ (m : ℕ). Directory m) (eqb-true mode 0 e)) make.there)
head_does v p q (FileWith mode bytes) ok =
    let make = does_make v p (Some (length bytes)) ok in
    does_both v (Create p ∷ []) (moding mode p) p (FileWith 0 []) (FileWith mode []) make
    (mode_by (after v (Create p)) p mode (FileWith 0 []) (mode == 0) (λ e. ap (λ (m : ℕ). FileWith m []) (eqb-true mode 0 e)) make.there)

-- ---- its bytes

at_end : (done bytes : List ℕ) → overwritten done (length done) bytes ≡ done ++ bytes
at_end done bytes =
    let kept : resized done (length done) ≡ done = ap (λ (n : ℕ). take (length done) done ++ replicate n 0) (let none : length done - length done ≡ 0 = omega arith in none) ∙ append-nil (take (length done) done) ∙ take-length done in
    ap (λ (l : List ℕ). (l ++ bytes) ++ drop (length done + length bytes) done) kept
    ∙ ap (λ (l : List ℕ). (done ++ bytes) ++ l) (drop_all (length done + length bytes) done (omega arith))
    ∙ append-nil (done ++ bytes)

writes_does : (n : ℕ) (v : Tree) (p : Path) (off mode : ℕ) (done bytes : List ℕ) → get v p ≡ Some (FileWith mode done) → off ≡ length done → length bytes ≤ n → length done + length bytes ≤ file_limit → Does v (writes_at n p off bytes) p (FileWith mode (done ++ bytes))
writes_does zero v p off mode done [] there at size fits = record { accepted = tt; there = there ∙ ap (λ (l : List ℕ). Some (FileWith mode l)) (sym (append-nil done)); beside = λ q differ. refl }
writes_does zero v p off mode done (b ∷ bytes) there at size fits = absurd (omega arith)
writes_does (suc n) v p off mode done [] there at size fits = record { accepted = tt; there = there ∙ ap (λ (l : List ℕ). Some (FileWith mode l)) (sym (append-nil done)); beside = λ q differ. refl }
writes_does (suc n) v p off mode done (b ∷ bytes) there at size fits =
    let chunk = take write_limit (b ∷ bytes) in
    let rest = drop write_limit (b ∷ bytes) in
    let c = Write p off chunk in
    let whole : chunk ++ rest ≡ b ∷ bytes = take-append-drop write_limit (b ∷ bytes) in
    let count : length chunk + length rest ≡ length (b ∷ bytes) = sym (length-append chunk rest) ∙ ap length whole in
    let some : 1 ≤ length chunk = omega (arith, length-take write_limit (b ∷ bytes)) in
    let ok : Accepts v c = ap (λ (o : Option Entry). option_or (file_refusal o) (size_refusal (off + length chunk))) there ∙ ap (λ (t : Bool). cond t None (Some TooBig)) (le-leb (off + length chunk) file_limit (omega (arith, count))) in
    let entry = with_bytes (overwritten (file_bytes (get v p)) off chunk) (get v p) in
    let is : entry ≡ FileWith mode (done ++ chunk) = ap (λ (o : Option Entry). with_bytes (overwritten (file_bytes o) off chunk) o) there ∙ ap (λ (k : ℕ). FileWith mode (overwritten done k chunk)) at ∙ ap (λ (l : List ℕ). FileWith mode l) (at_end done chunk) in
    let next : get (after v c) p ≡ Some (FileWith mode (done ++ chunk)) = after-made v c p entry ok refl ∙ ap (λ (e : Entry). Some e) is in
    let tail = writes_does n (after v c) p (off + length chunk) mode (done ++ chunk) rest next (omega (arith, length-append done chunk)) (omega (arith, count)) (omega (arith, count, length-append done chunk)) in
    record {
      accepted = (ok, tail.accepted);
      there = tail.there ∙ ap (λ (l : List ℕ). Some (FileWith mode l)) (append_assoc done chunk rest ∙ ap (λ (l : List ℕ). done ++ l) whole);
      beside = λ q differ. tail.beside q differ ∙ after-others v c p entry q refl differ;
    }

entry_does : (v : Tree) (target p : Path) (x : Entry) → IsEntry x → new_refusal v (target ++ p) ≡ None → Does v (entry_commands target (p, x)) (target ++ p) x
unfolding made
entry_does v target p (Directory mode) fits ok =
    let head = head_does v (target ++ p) p (Directory mode) ok in
    does_both v (head_commands (head_at (p, Directory mode)) (target ++ p)) [] (target ++ p) (Directory mode) (Directory mode) head
    (record { accepted = tt; there = head.there; beside = λ q differ. refl })
entry_does v target p (FileWith mode bytes) fits ok =
    let head = head_does v (target ++ p) p (FileWith mode bytes) ok in
    let hs = head_commands (head_at (p, FileWith mode bytes)) (target ++ p) in
    does_both v hs (writes_at (length bytes) (target ++ p) 0 bytes) (target ++ p) (FileWith mode []) (FileWith mode bytes) head
    (writes_does (length bytes) (after_all v hs) (target ++ p) 0 mode [] bytes head.there refl (omega arith) (omega (arith, fits.0)))

-- ---- all entries

-- what a tree has but for entries that are still to come
abbrev unless : List Placed → Path → Option Entry → Option Entry
unless es r o = cond (is_some (find path_cmp r es)) None o

-- the tree has the entries at the target that came, and all else as it was
record Grown (t : Tree) (top : Path) (u v : Tree) (target : Path) (es : List Placed) : Type 0 where
  pub inside : (r : Path) → get v (target ++ r) ≡ unless es r (get t (top ++ r))
  pub beside : (q : Path) → is_under target q ≡ false → get v q ≡ get u q

dir_refusal : (o : Option Entry) → has_directory o ≡ true → parent_refusal o ≡ None
dir_refusal None h = cc
dir_refusal (Some (Directory mode)) h = refl
dir_refusal (Some (FileWith mode bytes)) h = cc

outside : (around : Path) (n : Name) → is_under (around ++ n ∷ []) around ≡ false
outside around n = by (is_under (around ++ n ∷ []) around) refl
  where
    by : (b : Bool) → is_under (around ++ n ∷ []) around ≡ b → b ≡ false
    by true h = absurd (let rest = is_under-rest (around ++ n ∷ []) around h in let size = ap length (rest.1 ∙ append_assoc around (n ∷ []) rest.0) in omega (arith, size, length-append around (n ∷ rest.0)))
    by false h = refl

can_make : (t u v : Tree) → IsTree t → (top target : Path) → IsFree u target → (e : Placed) (es : List Placed) → Grown t top u v target (e ∷ es) → get t (top ++ e.0) ≡ Some e.1 → T (below_all path_cmp e.0 es) → new_refusal v (target ++ e.0) ≡ None
can_make t u v tree top target free e es grown there above =
    ap (λ (o : Option Entry). place_refusal (is_some o) v (target ++ e.0)) absent ∙ by (parent_of e.0) refl
  where
    absent : get v (target ++ e.0) ≡ None
    absent = grown.inside e.0 ∙ ap (λ (b : Bool). cond (is_some (cond b (Some e.1) (find path_cmp e.0 es))) None (get t (top ++ e.0))) (same_path-refl e.0)

    by : (o : Option Path) → parent_of e.0 ≡ o → parent_refusal (option_and_then (get v) (parent_of (target ++ e.0))) ≡ None
    by None is =
        let here : target ++ e.0 ≡ free.around ++ free.name ∷ [] = ap (λ (q : Path). target ++ q) (parent_of-none e.0 is) ∙ append-nil target ∙ free.is in
        let up : parent_of (target ++ e.0) ≡ Some free.around = ap parent_of here ∙ parent_of-append free.around free.name in
        let out : is_under target free.around ≡ false = ap (λ (q : Path). is_under q free.around) free.is ∙ outside free.around free.name in
        ap (λ (o : Option Path). parent_refusal (option_and_then (get v) o)) up ∙ dir_refusal (get v free.around) (ap has_directory (grown.beside free.around out) ∙ free.directory)
    by (Some parent) is =
        let cut = parent_of-some e.0 parent is in
        let up : parent_of (target ++ e.0) ≡ Some (target ++ parent) = parent_below target e.0 parent (target ++ e.0) refl is in
        let child : IsSome (get t ((top ++ parent) ++ cut.0 ∷ [])) = subst (λ (q : Path). IsSome (get t q)) (ap (λ (q : Path). top ++ q) cut.1 ∙ sym (append_assoc top parent (cut.0 ∷ []))) (ap is_some there) in
        let dir = tree.parents (top ++ parent) cut.0 child in
        let lower : path_cmp parent e.0 ≡ Less = ap (path_cmp parent) cut.1 ∙ front_less parent cut.0 in
        let none : find path_cmp parent (e ∷ es) ≡ None = not_found parent (e ∷ es) (both (is_lt (path_cmp parent e.0)) (below_all path_cmp parent es) (subst (λ (o : Ordering). T (is_lt o)) (sym lower) tt) (all_above parent e es lower above)) in
        let at : get v (target ++ parent) ≡ get t (top ++ parent) = grown.inside parent ∙ ap (λ (o : Option Entry). cond (is_some o) None (get t (top ++ parent))) none in
        ap (λ (o : Option Path). parent_refusal (option_and_then (get v) o)) up ∙ dir_refusal (get v (target ++ parent)) (ap has_directory at ∙ dir)

grown_next : (t u v w : Tree) (top target : Path) (e : Placed) (es : List Placed) → Grown t top u v target (e ∷ es) → get t (top ++ e.0) ≡ Some e.1 → T (below_all path_cmp e.0 es) → get w (target ++ e.0) ≡ Some e.1 → ((q : Path) → q ≢ target ++ e.0 → get w q ≡ get v q) → Grown t top u w target es
grown_next t u v w top target e es grown there above at others =
    record {
      inside = λ r. by r (one_or_apart r e.0);
      beside = λ q out. others q (λ same. apart q out same) ∙ grown.beside q out;
    }
  where
    apart : (q : Path) → is_under target q ≡ false → q ≡ target ++ e.0 → ⊥
    apart q out same = (let yes : is_under target q ≡ true = ap (is_under target) same ∙ is_under-append target e.0 in cc)

    by : (r : Path) → (r ≡ e.0) ⊎ (r ≢ e.0) → get w (target ++ r) ≡ unless es r (get t (top ++ r))
    by r (inl same) =
        let none : find path_cmp e.0 es ≡ None = not_found e.0 es above in
        ap (λ (q : Path). get w (target ++ q)) same ∙ at ∙ sym there
        ∙ ap (λ (o : Option Entry). cond (is_some o) None (get t (top ++ e.0))) (sym none) ∙ ap (λ (q : Path). unless es q (get t (top ++ q))) (sym same)
    by r (inr differ) =
        others (target ++ r) (λ same. differ (append_cancel_left target r e.0 same)) ∙ grown.inside r
        ∙ ap (λ (b : Bool). cond (is_some (cond b (Some e.1) (find path_cmp r es))) None (get t (top ++ r))) (same_path-false r e.0 differ)

-- what is made of a tree with entries that are to come
record Plants (t : Tree) (top : Path) (u v : Tree) (target : Path) (es : List Placed) : Type 0 where
  pub accepted : AreAccepted v (flat_map (entry_commands target) es)
  pub grown : Grown t top u (after_all v (flat_map (entry_commands target) es)) target []

plants : (t u v : Tree) → IsTree t → (top target : Path) → IsFree u target → (es : List Placed) → T (is_sorted path_cmp es) → AllByRecursion (λ f. get t (top ++ f.0) ≡ Some f.1) es → Grown t top u v target es → Plants t top u v target es
plants t u v tree top target free [] sorted all grown = record { accepted = tt; grown = grown }
plants t u v tree top target free (e ∷ es) sorted all grown =
    let high = first (below_all path_cmp e.0 es) (is_sorted path_cmp es) sorted in
    let cs = entry_commands target e in
    let rest = flat_map (entry_commands target) es in
    let fits : IsEntry e.1 = subst (λ (o : Option Entry). IfSome o IsEntry) all.0 (tree.entries (top ++ e.0)) in
    let does = entry_does v target e.0 e.1 fits (can_make t u v tree top target free e es grown all.0 high) in
    let next = grown_next t u v (after_all v cs) top target e es grown all.0 high does.there does.beside in
    let more = plants t u (after_all v cs) tree top target free es (second (below_all path_cmp e.0 es) (is_sorted path_cmp es) sorted) all.1 next in
    record {
      accepted = accepts_both v cs rest does.accepted more.accepted;
      grown = subst (λ (w : Tree). Grown t top u w target []) (sym (after_both v cs rest)) more.grown;
    }

-- ---- a subtree

begins_grown : (t u : Tree) → IsTree u → (top target : Path) → get u target ≡ None → Grown t top u u target (entries_at t top)
begins_grown t u tree top target free =
    record {
      inside = λ r. absent_below u tree target r free ∙ by r (get t (top ++ r)) (found_at t top r);
      beside = λ q out. refl;
    }
  where
    by : (r : Path) (o : Option Entry) → find path_cmp r (entries_at t top) ≡ o → None ≡ unless (entries_at t top) r o
    by r None is = ap (λ (o : Option Entry). cond (is_some o) None None) (sym is)
    by r (Some x) is = ap (λ (o : Option Entry). cond (is_some o) None (Some x)) (sym is)

all_plants : (t u : Tree) (top target : Path) → IsTree t → IsTree u → IsFree u target → Plants t top u u target (entries_at t top)
all_plants t u top target tree other free =
    plants t u u tree top target free (entries_at t top) (at_sorted t top) (at_there t top) (begins_grown t u other top target free.free)

-- each command is accepted
pub planting_accepted : (t u : Tree) (top target : Path) → IsTree t → IsTree u → IsFree u target → AreAccepted u (planting t top target)
planting_accepted t u top target tree other free = (all_plants t u top target tree other free).accepted

-- and the subtree stands at the target then
pub planting_plants : (t u : Tree) (top target : Path) → IsTree t → IsTree u → IsFree u target → IsPlanted t top u (after_all u (planting t top target)) target
planting_plants t u top target tree other free =
    let p = all_plants t u top target tree other free in
    record { planted = p.grown.inside; beside = p.grown.beside }
