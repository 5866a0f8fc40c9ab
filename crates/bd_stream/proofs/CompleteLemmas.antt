-- Only streams are complete.
use Rattle.std.proofs.Common.{◌≡◌, ◌≢◌, ◌⊎◌, inl, inr, ℕ, zero, suc, ◌+◌, ◌-◌, ◌<◌, ◌≤◌, List, [], ◌∷◌, ◌++◌, length, Bool, true, false, cond, Option, None, Some, refl, sym, ap, subst, ◌∙◌, arith, append_assoc, append-nil, length-append}
use Rattle.std.specs.Prelude.{slice_index, nat_lt, ◌==◌, is_none, unwrap_or}
use Rattle.std.specs.List.{flat_map, AllByRecursion}
use Rattle.std.proofs.lemmas.Bool.{ltb-true, ltb-false, eqb-true}
use Rattle.std.proofs.lemmas.List.{flat_map_more}
use Rattle.bd_limits.specs.Limits.{path_limit}
use Rattle.bd_names.specs.Names.{AreNames, same_text, path_text}
use Rattle.bd_names.proofs.NamesLaws.{AreNames-append, same_text-true}
use Rattle.bd_command.specs.Command.{IsShortPath}
use Rattle.bd_model.specs.Tree.{Path, Entry, Directory, FileWith, is_directory}
use Rattle.bd_model.specs.Step.{Placed, file_bytes}
use Rattle.bd_stream.specs.declared.head.Head.{Head}
use Rattle.bd_stream.specs.declared.machine.Phase.{Phase}
use Rattle.bd_stream.specs.declared.machine.Phase.TheVariants.{Start, First, Next, Data, Ended, Bad, Long}
use Rattle.bd_stream.specs.Heads.{IsHead, head_bytes, head_of, head_size, is_kind, path_count}
use Rattle.bd_stream.specs.Within.{AreBytes, IsWell}
use Rattle.bd_stream.specs.Importing.{State, Turn, IsSound, start, magic, go, quietly, first_phase, end_phase, is_long, is_in_order, short_path, entered, given, phase_with, placed_turn, found_turn, tag_turn, turn_in, turn, with_byte, need, head_need, taken, fed}
use Rattle.bd_stream.specs.Streams.{head_at, entry_bytes, stream_bytes, FitsBelow, AreInOrder, IsStreamFor}
use Rattle.bd_stream.proofs.NeedLemmas.{need_exact, size_known}
use Rattle.bd_stream.proofs.MoveLemmas.{short_length}
use Rattle.bd_stream.proofs.WrittenLemmas.{read_bytes, read_head}
use Rattle.bd_stream.proofs.FedLemmas.{taken_sound, fed-nil, fed-cons, chunk_le}
use Rattle.bd_stream.proofs.WellLemmas.{all_with, taken_well, start_well, start_sound}

-- ---- bytes

bytes_at : (bytes : List ℕ) → AreBytes bytes → (i : ℕ) → slice_index bytes i < 256
bytes_at [] h i = omega arith
bytes_at (b ∷ bytes) h zero = h.0
bytes_at (b ∷ bytes) h (suc i) = bytes_at bytes h.1 i

-- ---- the entries so far

-- a part of a stream that ends after an entry
record Sofar (target : Path) (phase : Phase) (last : Path) (is_dir : Bool) (before : List ℕ) : Type 0 where
  pub entries : List Placed
  pub bytes : before ≡ magic ++ flat_map entry_bytes entries
  pub some : phase ≡ Next → entries ≢ []
  pub order : AreInOrder First [] true entries
  pub each : AllByRecursion (FitsBelow target) entries
  pub next : (e : Placed) → is_in_order phase last is_dir e.0 ≡ true → AreInOrder First [] true (entries ++ e ∷ [])

each_more : (target : Path) (es : List Placed) (e : Placed) → AllByRecursion (FitsBelow target) es → FitsBelow target e → AllByRecursion (FitsBelow target) (es ++ e ∷ [])
each_more target [] e all h = (h, tt)
each_more target (x ∷ es) e all h = (all.0, each_more target es e all.1 h)

order_more : (es : List Placed) (e f : Placed) (phase : Phase) (last : Path) (is_dir : Bool) → AreInOrder phase last is_dir (es ++ e ∷ []) → is_in_order Next e.0 (is_directory e.1) f.0 ≡ true → AreInOrder phase last is_dir ((es ++ e ∷ []) ++ f ∷ [])
order_more [] e f phase last is_dir h k = (h.0, (k, tt))
order_more (x ∷ es) e f phase last is_dir h k = (h.0, order_more es e f Next x.0 (is_directory x.1) h.1 k)

not_empty : (es : List Placed) (e : Placed) → es ++ e ∷ [] ≢ []
not_empty [] e h = cc
not_empty (x ∷ es) e h = cc

-- an entry more
add_entry : (target : Path) (phase : Phase) (last : Path) (is_dir : Bool) (before : List ℕ) (s : Sofar target phase last is_dir before) (e : Placed) → AreInOrder First [] true (s.entries ++ e ∷ []) → FitsBelow target e → Sofar target Next e.0 (is_directory e.1) (before ++ entry_bytes e)
add_entry target phase last is_dir before s e order fits =
    record {
      entries = s.entries ++ e ∷ [];
      bytes = ap (λ (l : List ℕ). l ++ entry_bytes e) s.bytes ∙ flat_map_more entry_bytes magic s.entries e;
      some = λ is. not_empty s.entries e;
      order = order;
      each = each_more target s.entries e s.each fits;
      next = λ f h. order_more s.entries e f First [] true order h;
    }

-- a part of a stream that ends in a file's bytes
record Partial (target last : Path) (off left : ℕ) (is_dir : Bool) (before : List ℕ) : Type 0 where
  pub front : List ℕ
  pub phase : Phase
  pub above : Path
  pub above_dir : Bool
  pub sofar : Sofar target phase above above_dir front
  pub mode : ℕ
  pub got : List ℕ
  pub bytes : before ≡ front ++ (head_bytes (record { path = last; mode = mode; len = Some (off + left) }) ++ got)
  pub count : length got ≡ off
  pub order : (bytes : List ℕ) → AreInOrder First [] true (sofar.entries ++ (last, FileWith mode bytes) ∷ [])
  pub head : IsHead (record { path = last; mode = mode; len = Some (off + left) })
  pub path : IsShortPath (target ++ last)
  pub file : is_dir ≡ false

-- the bytes of a head wait
unfoldable Kinded : List ℕ → Type 0
Kinded [] = Unit {0}
Kinded (b ∷ bytes) = is_kind b ≡ true

record AtHead (target : Path) (phase : Phase) (last : Path) (is_dir : Bool) (w fedd : List ℕ) : Type 0 where
  pub before : List ℕ
  pub whole : fedd ≡ before ++ w
  pub sofar : Sofar target phase last is_dir before

record AtData (target last : Path) (off left : ℕ) (is_dir : Bool) (w fedd : List ℕ) : Type 0 where
  pub before : List ℕ
  pub whole : fedd ≡ before ++ w
  pub rest : Partial target last off left is_dir before

abbrev InIn : Phase → Path → State → List ℕ → Type 0
InIn Start target s f = (f ≡ s.waiting) × (s.last ≡ []) × (s.is_dir ≡ true)
InIn First target s f = AtHead target First s.last s.is_dir s.waiting f
InIn Next target s f = AtHead target Next s.last s.is_dir s.waiting f
InIn Data target s f = AtData target s.last s.off s.left s.is_dir s.waiting f
InIn Ended target s f = (es : List Placed) × IsStreamFor target es × (f ≡ stream_bytes es)
InIn Bad target s f = Unit {0}
InIn Long target s f = Unit {0}

abbrev KindIn : Phase → List ℕ → Type 0
KindIn Start w = Unit {0}
KindIn First w = Kinded w
KindIn Next w = Kinded w
KindIn Data w = Unit {0}
KindIn Ended w = Unit {0}
KindIn Bad w = Unit {0}
KindIn Long w = Unit {0}

-- what came is a part of a stream, as far as it is understood
record IsPart (target : Path) (s : State) (f : List ℕ) : Type 0 where
  pub same : s.target ≡ target
  pub part : InIn s.phase target s f
  pub kind : KindIn s.phase s.waiting

bad_part : (target : Path) (m : State) (f : List ℕ) → m.target ≡ target → IsPart target (go Bad m) f
bad_part target m f same = record { same = same; part = tt; kind = tt }

long_part : (target : Path) (m : State) (f : List ℕ) → m.target ≡ target → IsPart target (go Long m) f
long_part target m f same = record { same = same; part = tt; kind = tt }

-- ---- a head

kept_all : (before w f : List ℕ) → f ≡ before ++ w → f ≡ (before ++ w) ++ []
kept_all before w f is = is ∙ sym (append-nil (before ++ w))

-- after the head of what has no bytes
empty_part : (target : Path) (m : State) (p : Path) (f before : List ℕ) (ph : Phase) (h : Head) (x : Entry) → m.target ≡ target → Sofar target ph m.last m.is_dir before → f ≡ before ++ head_bytes h → head_at (h.path, x) ≡ h → file_bytes (Some x) ≡ [] → is_directory x ≡ is_none h.len → phase_with (unwrap_or h.len 0) ≡ Next → is_in_order ph m.last m.is_dir h.path ≡ true → FitsBelow target (h.path, x) → IsPart target (entered m h p) f
unfolding Kinded
empty_part target m p f before ph h x same sofar whole is none kind phase order fits =
    let e : Placed = (h.path, x) in
    let more = add_entry target ph m.last m.is_dir before sofar e (sofar.next e order) fits in
    let bytes : entry_bytes e ≡ head_bytes h = ap (λ (l : List ℕ). head_bytes (head_at e) ++ l) none ∙ append-nil (head_bytes (head_at e)) ∙ ap head_bytes is in
    let at : AtHead target Next h.path (is_none h.len) [] f = record {
      before = before ++ entry_bytes e;
      whole = whole ∙ ap (λ (l : List ℕ). before ++ l) (sym bytes) ∙ sym (append-nil (before ++ entry_bytes e));
      sofar = subst (λ (b : Bool). Sofar target Next h.path b (before ++ entry_bytes e)) kind more;
    } in
    record {
      same = same;
      part = subst (λ (k : Phase). InIn k target (entered m h p) f) (sym phase) at;
      kind = subst (λ (k : Phase). KindIn k []) (sym phase) tt;
    }

-- after the head of a file that has some
file_part : (target : Path) (m : State) (p q : Path) (mode n : ℕ) (f before : List ℕ) (ph : Phase) → m.target ≡ target → Sofar target ph m.last m.is_dir before → f ≡ before ++ head_bytes (record { path = q; mode = mode; len = Some n }) → phase_with n ≡ Data → is_in_order ph m.last m.is_dir q ≡ true → IsHead (record { path = q; mode = mode; len = Some n }) → IsShortPath (target ++ q) → IsPart target (entered m (record { path = q; mode = mode; len = Some n }) p) f
file_part target m p q mode n f before ph same sofar whole phase order head short =
    let total : n ≡ 0 + n = omega arith in
    let at : AtData target q 0 n false [] f = record {
      before = f;
      whole = sym (append-nil f);
      rest = record {
        front = before;
        phase = ph;
        above = m.last;
        above_dir = m.is_dir;
        sofar = sofar;
        mode = mode;
        got = [];
        bytes = whole ∙ ap (λ (k : ℕ). before ++ head_bytes (record { path = q; mode = mode; len = Some k })) total ∙ ap (λ (l : List ℕ). before ++ l) (sym (append-nil (head_bytes (record { path = q; mode = mode; len = Some (0 + n) }))));
        count = refl;
        order = λ bytes. sofar.next (q, FileWith mode bytes) order;
        head = subst (λ (k : ℕ). IsHead (record { path = q; mode = mode; len = Some k })) total head;
        path = short;
        file = refl;
      };
    } in
    record {
      same = same;
      part = subst (λ (k : Phase). InIn k target (entered m (record { path = q; mode = mode; len = Some n }) p) f) (sym phase) at;
      kind = subst (λ (k : Phase). KindIn k []) (sym phase) tt;
    }

entered_part : (target : Path) (m : State) (p q : Path) (mode : ℕ) (len : Option ℕ) (f before : List ℕ) (ph : Phase) → m.target ≡ target → Sofar target ph m.last m.is_dir before → f ≡ before ++ head_bytes (record { path = q; mode = mode; len = len }) → is_in_order ph m.last m.is_dir q ≡ true → IsHead (record { path = q; mode = mode; len = len }) → IsShortPath (target ++ q) → IsPart target (entered m (record { path = q; mode = mode; len = len }) p) f
entered_part target m p q mode None f before ph same sofar whole order head short =
    empty_part target m p f before ph (record { path = q; mode = mode; len = None }) (Directory mode) same sofar whole refl refl refl refl order (record { head = head; path = short })
entered_part target m p q mode (Some n) f before ph same sofar whole order head short = by (n == 0) refl
  where
    by : (b : Bool) → (n == 0) ≡ b → IsPart target (entered m (record { path = q; mode = mode; len = Some n }) p) f
    by true is =
        let zero_is : n ≡ 0 = eqb-true n 0 is in
        let h : Head = record { path = q; mode = mode; len = Some n } in
        let same_head : head_at (q, FileWith mode []) ≡ h = ap (λ (k : ℕ). record { path = q; mode = mode; len = Some k }) (sym zero_is) in
        empty_part target m p f before ph h (FileWith mode []) same sofar whole same_head refl refl (ap (λ (b : Bool). cond b Next Data) is) order
        (record { head = subst IsHead (sym same_head) head; path = short })
    by false is = file_part target m p q mode n f before ph same sofar whole (ap (λ (b : Bool). cond b Next Data) is) order head short

head_part : (target : Path) → AreNames target → (m : State) (f before : List ℕ) → m.target ≡ target → Sofar target m.phase m.last m.is_dir before → f ≡ before ++ m.waiting → (o : Option Head) → ((h : Head) → o ≡ Some h → (m.waiting ≡ head_bytes h) × IsHead h) → IsPart target (found_turn m o).0 f
head_part target names m f before same sofar whole None read = bad_part target m f same
head_part target names m f before same sofar whole (Some h) read = by (is_in_order m.phase m.last m.is_dir h.path) refl (short_path (m.target ++ h.path)) refl
  where
    by : (b : Bool) → is_in_order m.phase m.last m.is_dir h.path ≡ b → (o : Option Path) → short_path (m.target ++ h.path) ≡ o → IsPart target (cond b (placed_turn m h o) (quietly Bad m)).0 f
    by false order o is = bad_part target m f same
    by true order None is = long_part target m f same
    by true order (Some p) is =
        let found = read h refl in
        let size : length (path_text (target ++ h.path)) ≤ path_limit = subst (λ (q : Path). length (path_text (q ++ h.path)) ≤ path_limit) same (short_length (m.target ++ h.path) p is) in
        entered_part target m p h.path h.mode h.len f before m.phase same sofar (whole ∙ ap (λ (l : List ℕ). before ++ l) found.0) order found.1 (AreNames-append target h.path names found.1.path.0, size)

single : (w : List ℕ) → length w ≡ 1 → slice_index w 0 ≡ 69 → w ≡ 69 ∷ []
single [] h is = absurd (omega arith)
single (a ∷ []) h is = ap (λ (b : ℕ). b ∷ []) is
single (a ∷ c ∷ w) h is = absurd (omega arith)

tag_part : (target : Path) → AreNames target → (m : State) (f before : List ℕ) → (m.phase ≡ First) ⊎ (m.phase ≡ Next) → m.target ≡ target → AreBytes m.waiting → length m.waiting ≡ head_need m.waiting → (is_kind (slice_index m.waiting 0) ≡ true) ⊎ (length m.waiting ≡ 1) → Sofar target m.phase m.last m.is_dir before → f ≡ before ++ m.waiting → IsPart target (tag_turn (slice_index m.waiting 0) m).0 f
tag_part target names m f before ph same bytes size kind sofar whole = by (slice_index m.waiting 0 == 69) refl (is_kind (slice_index m.waiting 0)) refl (is_long m.waiting) refl
  where
    ends : slice_index m.waiting 0 ≡ 69 → (m.phase ≡ First) ⊎ (m.phase ≡ Next) → IsPart target (go (end_phase m.phase) m) f
    ends is (inl p) = subst (λ (k : Phase). IsPart target (go (end_phase k) m) f) (sym p) (bad_part target m f same)
    ends is (inr p) =
        let one : length m.waiting ≡ 1 = only kind in
        let end : f ≡ stream_bytes sofar.entries = whole ∙ ap (λ (l : List ℕ). before ++ l) (single m.waiting one is) ∙ ap (λ (l : List ℕ). l ++ 69 ∷ []) sofar.bytes in
        subst (λ (k : Phase). IsPart target (go (end_phase k) m) f) (sym p) (record { same = same; part = (sofar.entries, record { some = sofar.some p; order = sofar.order; each = sofar.each }, end); kind = tt })
      where
        only : (is_kind (slice_index m.waiting 0) ≡ true) ⊎ (length m.waiting ≡ 1) → length m.waiting ≡ 1
        only (inl k) = absurd (let no : is_kind (slice_index m.waiting 0) ≡ false = ap is_kind is in cc)
        only (inr one) = one

    by : (t : Bool) → (slice_index m.waiting 0 == 69) ≡ t → (k : Bool) → is_kind (slice_index m.waiting 0) ≡ k → (l : Bool) → is_long m.waiting ≡ l → IsPart target (cond t (quietly (end_phase m.phase) m) (cond k (cond l (quietly Long m) (found_turn m (head_of m.waiting))) (quietly Bad m))).0 f
    by true is k isk l isl = ends (eqb-true (slice_index m.waiting 0) 69 is) ph
    by false is false isk l isl = bad_part target m f same
    by false is true isk true isl = long_part target m f same
    by false is true isk false isl =
        let few : path_count m.waiting ≤ 511 = ltb-false 511 (path_count m.waiting) isl in
        let whole_head : length m.waiting ≡ head_size m.waiting = size_known m.waiting size isk few in
        head_part target names m f before same sofar whole (head_of m.waiting)
        (λ h read. (read_bytes m.waiting h (bytes_at m.waiting bytes) isk whole_head read, read_head m.waiting h (bytes_at m.waiting bytes) isk whole_head read))

-- ---- the bytes of a file

data_part : (target : Path) (m : State) (f before : List ℕ) → m.target ≡ target → length m.waiting ≤ m.left → Partial target m.last m.off m.left m.is_dir before → f ≡ before ++ m.waiting → IsPart target (given m (length m.waiting)) f
unfolding Kinded
data_part target m f before same fits p whole = by (m.left - length m.waiting == 0) refl
  where
    got : List ℕ
    got = p.got ++ m.waiting

    count : length (p.got ++ m.waiting) ≡ m.off + length m.waiting
    count = omega (arith, p.count, length-append p.got m.waiting)

    moved : f ≡ p.front ++ (head_bytes (record { path = m.last; mode = p.mode; len = Some (m.off + m.left) }) ++ (p.got ++ m.waiting))
    moved =
        whole ∙ ap (λ (l : List ℕ). l ++ m.waiting) p.bytes
        ∙ append_assoc p.front (head_bytes (record { path = m.last; mode = p.mode; len = Some (m.off + m.left) }) ++ p.got) m.waiting
        ∙ ap (λ (l : List ℕ). p.front ++ l) (append_assoc (head_bytes (record { path = m.last; mode = p.mode; len = Some (m.off + m.left) })) p.got m.waiting)

    by : (b : Bool) → (m.left - length m.waiting == 0) ≡ b → IsPart target (given m (length m.waiting)) f
    by true is =
        let none : m.left - length m.waiting ≡ 0 = eqb-true (m.left - length m.waiting) 0 is in
        let total : m.off + m.left ≡ length (p.got ++ m.waiting) = omega (arith, count, none, fits) in
        let e : Placed = (m.last, FileWith p.mode (p.got ++ m.waiting)) in
        let head : IsHead (head_at e) = subst (λ (k : ℕ). IsHead (record { path = m.last; mode = p.mode; len = Some k })) total p.head in
        let more = add_entry target p.phase p.above p.above_dir p.front p.sofar e (p.order (p.got ++ m.waiting)) (record { head = head; path = p.path }) in
        let at : AtHead target Next m.last m.is_dir [] f = record {
          before = p.front ++ entry_bytes e;
          whole = moved ∙ ap (λ (k : ℕ). p.front ++ (head_bytes (record { path = m.last; mode = p.mode; len = Some k }) ++ (p.got ++ m.waiting))) total ∙ sym (append-nil (p.front ++ entry_bytes e));
          sofar = subst (λ (b : Bool). Sofar target Next m.last b (p.front ++ entry_bytes e)) (sym p.file) more;
        } in
        record {
          same = same;
          part = subst (λ (k : Phase). InIn k target (given m (length m.waiting)) f) (sym (ap (λ (b : Bool). cond b Next Data) is)) at;
          kind = subst (λ (k : Phase). KindIn k []) (sym (ap (λ (b : Bool). cond b Next Data) is)) tt;
        }
    by false is =
        let total : m.off + m.left ≡ (m.off + length m.waiting) + (m.left - length m.waiting) = omega (arith, fits) in
        let at : AtData target m.last (m.off + length m.waiting) (m.left - length m.waiting) m.is_dir [] f = record {
          before = f;
          whole = sym (append-nil f);
          rest = record {
            front = p.front;
            phase = p.phase;
            above = p.above;
            above_dir = p.above_dir;
            sofar = p.sofar;
            mode = p.mode;
            got = p.got ++ m.waiting;
            bytes = moved ∙ ap (λ (k : ℕ). p.front ++ (head_bytes (record { path = m.last; mode = p.mode; len = Some k }) ++ (p.got ++ m.waiting))) total;
            count = count;
            order = p.order;
            head = subst (λ (k : ℕ). IsHead (record { path = m.last; mode = p.mode; len = Some k })) total p.head;
            path = p.path;
            file = p.file;
          };
        } in
        record {
          same = same;
          part = subst (λ (k : Phase). InIn k target (given m (length m.waiting)) f) (sym (ap (λ (b : Bool). cond b Next Data) is)) at;
          kind = subst (λ (k : Phase). KindIn k []) (sym (ap (λ (b : Bool). cond b Next Data) is)) tt;
        }

-- ---- a byte

kind_one : (w : List ℕ) (b : ℕ) → Kinded w → (is_kind (slice_index (w ++ b ∷ []) 0) ≡ true) ⊎ (length (w ++ b ∷ []) ≡ 1)
unfolding Kinded
kind_one [] b k = inr refl
kind_one (a ∷ w) b k = inl k

kinded_more : (w : List ℕ) (b : ℕ) → Kinded w → length (w ++ b ∷ []) < head_need (w ++ b ∷ []) → Kinded (w ++ b ∷ [])
unfolding Kinded
kinded_more [] b k h = by (is_kind b) h
  where
    by : (t : Bool) → 1 < cond t 3 1 → t ≡ true
    by true h = refl
    by false h = absurd (omega arith)
kinded_more (a ∷ w) b k h = k

-- it waits with the others
waits_part : (phase : Phase) (target : Path) (s : State) (b : ℕ) (f : List ℕ) → length (s.waiting ++ b ∷ []) < need phase s.left (s.waiting ++ b ∷ []) → InIn phase target s f → KindIn phase s.waiting → InIn phase target (with_byte s b) (f ++ b ∷ []) × KindIn phase (s.waiting ++ b ∷ [])
waits_part Start target s b f h part kind = ((ap (λ (l : List ℕ). l ++ b ∷ []) part.0, part.1, part.2), tt)
waits_part First target s b f h part kind =
    (record { before = part.before; whole = ap (λ (l : List ℕ). l ++ b ∷ []) part.whole ∙ append_assoc part.before s.waiting (b ∷ []); sofar = part.sofar }, kinded_more s.waiting b kind h)
waits_part Next target s b f h part kind =
    (record { before = part.before; whole = ap (λ (l : List ℕ). l ++ b ∷ []) part.whole ∙ append_assoc part.before s.waiting (b ∷ []); sofar = part.sofar }, kinded_more s.waiting b kind h)
waits_part Data target s b f h part kind =
    (record { before = part.before; whole = ap (λ (l : List ℕ). l ++ b ∷ []) part.whole ∙ append_assoc part.before s.waiting (b ∷ []); rest = part.rest }, tt)
waits_part Ended target s b f h part kind = absurd (omega (arith, length-append s.waiting (b ∷ [])))
waits_part Bad target s b f h part kind = (tt, tt)
waits_part Long target s b f h part kind = (tt, tt)

magic_part : (target : Path) (m : State) (f : List ℕ) → m.target ≡ target → f ≡ m.waiting → m.last ≡ [] → m.is_dir ≡ true → IsPart target (go (first_phase m.waiting) m) f
unfolding Kinded
magic_part target m f same whole last dir = by (same_text m.waiting magic) refl
  where
    by : (b : Bool) → same_text m.waiting magic ≡ b → IsPart target (go (cond b First Bad) m) f
    by true is =
        record {
          same = same;
          part = record {
            before = magic;
            whole = whole ∙ same_text-true m.waiting magic is;
            sofar = record {
              entries = [];
              bytes = refl;
              some = λ e. cc;
              order = tt;
              each = tt;
              next = λ e h. (h, tt);
            };
          };
          kind = tt;
        }
    by false is = bad_part target m f same

-- enough bytes wait
turns_part : (phase : Phase) (target : Path) → AreNames target → (s : State) (b : ℕ) (f : List ℕ) → s.phase ≡ phase → s.target ≡ target → AreBytes (s.waiting ++ b ∷ []) → length (s.waiting ++ b ∷ []) ≡ need phase s.left (s.waiting ++ b ∷ []) → InIn phase target s f → KindIn phase s.waiting → IsPart target (turn_in phase (with_byte s b)).0 (f ++ b ∷ [])
turns_part Start target names s b f is same bytes size part kind = magic_part target (with_byte s b) (f ++ b ∷ []) same (ap (λ (l : List ℕ). l ++ b ∷ []) part.0) part.1 part.2
turns_part First target names s b f is same bytes size part kind =
    tag_part target names (with_byte s b) (f ++ b ∷ []) part.before (inl is) same bytes size (kind_one s.waiting b kind) (subst (λ (k : Phase). Sofar target k s.last s.is_dir part.before) (sym is) part.sofar)
    (ap (λ (l : List ℕ). l ++ b ∷ []) part.whole ∙ append_assoc part.before s.waiting (b ∷ []))
turns_part Next target names s b f is same bytes size part kind =
    tag_part target names (with_byte s b) (f ++ b ∷ []) part.before (inr is) same bytes size (kind_one s.waiting b kind) (subst (λ (k : Phase). Sofar target k s.last s.is_dir part.before) (sym is) part.sofar)
    (ap (λ (l : List ℕ). l ++ b ∷ []) part.whole ∙ append_assoc part.before s.waiting (b ∷ []))
turns_part Data target names s b f is same bytes size part kind =
    data_part target (with_byte s b) (f ++ b ∷ []) part.before same (omega (arith, size, chunk_le s.left)) part.rest
    (ap (λ (l : List ℕ). l ++ b ∷ []) part.whole ∙ append_assoc part.before s.waiting (b ∷ []))
turns_part Ended target names s b f is same bytes size part kind = bad_part target (with_byte s b) (f ++ b ∷ []) same
turns_part Bad target names s b f is same bytes size part kind = bad_part target (with_byte s b) (f ++ b ∷ []) same
turns_part Long target names s b f is same bytes size part kind = long_part target (with_byte s b) (f ++ b ∷ []) same

taken_part : (target : Path) → AreNames target → (s : State) (b : ℕ) (f : List ℕ) → IsSound s → AreBytes (s.waiting ++ b ∷ []) → IsPart target s f → IsPart target (taken s b).0 (f ++ b ∷ [])
unfolding taken
taken_part target names s b f sound bytes p = by (nat_lt (length (s.waiting ++ b ∷ [])) (need s.phase s.left (s.waiting ++ b ∷ []))) refl
  where
    by : (t : Bool) → nat_lt (length (s.waiting ++ b ∷ [])) (need s.phase s.left (s.waiting ++ b ∷ [])) ≡ t → IsPart target (cond t (with_byte s b, []) (turn (with_byte s b))).0 (f ++ b ∷ [])
    by true e =
        let more = waits_part s.phase target s b f (ltb-true (length (s.waiting ++ b ∷ [])) (need s.phase s.left (s.waiting ++ b ∷ [])) e) p.part p.kind in
        record { same = p.same; part = more.0; kind = more.1 }
    by false e = turns_part s.phase target names s b f refl p.same bytes (need_exact s.phase s.left s.waiting b sound.waits (ltb-false (length (s.waiting ++ b ∷ [])) (need s.phase s.left (s.waiting ++ b ∷ [])) e)) p.part p.kind

fed_part : (bytes : List ℕ) (target : Path) → AreNames target → (s : State) (f : List ℕ) → IsSound s → IsWell s → AreBytes bytes → IsPart target s f → IsPart target (fed s bytes).0 (f ++ bytes)
fed_part [] target names s f sound well all p =
    subst (λ (t : Turn). IsPart target t.0 (f ++ [])) (sym (fed-nil s)) (subst (IsPart target s) (sym (append-nil f)) p)
fed_part (b ∷ bytes) target names s f sound well all p =
    let one = taken_part target names s b f sound (all_with b s.waiting all.0 well.waiting) p in
    let rest = fed_part bytes target names (taken s b).0 (f ++ b ∷ []) (taken_sound s b sound) (taken_well s b sound well all.0).well all.1 one in
    subst (λ (t : Turn). IsPart target t.0 (f ++ b ∷ bytes)) (sym (fed-cons s b bytes)) (subst (IsPart target (fed (taken s b).0 bytes).0) (append_assoc f (b ∷ []) bytes) rest)

-- ---- all bytes

ended_by : (phase : Phase) (target : Path) (s : State) (f : List ℕ) → phase ≡ Ended → InIn phase target s f → (es : List Placed) × IsStreamFor target es × (f ≡ stream_bytes es)
ended_by Start target s f is part = cc
ended_by First target s f is part = cc
ended_by Next target s f is part = cc
ended_by Data target s f is part = cc
ended_by Ended target s f is part = part
ended_by Bad target s f is part = cc
ended_by Long target s f is part = cc

-- bytes that are complete are a stream
pub complete_stream : (target : Path) (bytes : List ℕ) → IsShortPath target → AreBytes bytes → (fed (start target) bytes).0.phase ≡ Ended → (es : List Placed) × IsStreamFor target es × (bytes ≡ stream_bytes es)
complete_stream target bytes short all end =
    let s = (fed (start target) bytes).0 in
    let p = fed_part bytes target short.0 (start target) [] (start_sound target) (start_well target short) all (record { same = refl; part = (refl, refl, refl); kind = tt }) in
    ended_by s.phase target s bytes end p.part
