-- What bytes do that come one after the other until as many are there as are needed.
use Rattle.std.proofs.Common.{◌≡◌, ◌≢◌, ℕ, ◌+◌, ◌-◌, ◌<◌, ◌≤◌, List, [], ◌∷◌, ◌++◌, length, take, drop, Bool, true, false, cond, zero, suc, refl, sym, ap, subst, ◌∙◌, arith, length-append, append_assoc, append-nil}
use Rattle.std.specs.Prelude.{nat_lt}
use Rattle.std.proofs.lemmas.Bool.{lt-ltb, le-ltb, ltb-true, ltb-false, ne_eqb}
use Rattle.std.proofs.lemmas.List.{take-append-drop, length-take, length-drop}
use Rattle.bd_limits.specs.Limits.{write_limit}
use Rattle.bd_command.specs.declared.Command.{Command}
use Rattle.bd_command.specs.declared.Command.TheVariants.{Write}
use Rattle.bd_stream.specs.declared.machine.Phase.{Phase}
use Rattle.bd_stream.specs.declared.machine.Phase.TheVariants.{Next, Data}
use Rattle.bd_stream.specs.Importing.{State, Turn, need, chunk_size, phase_with, with_byte, turn, taken, fed}
use Rattle.bd_stream.specs.Streams.{writes_at}
use Rattle.bd_stream.proofs.FedLemmas.{fed-nil, fed-cons, fed-append}

-- the same with other bytes that wait
abbrev pub with_waiting : State → List ℕ → State
with_waiting s bytes = record {
  target = s.target;
  phase = s.phase;
  last = s.last;
  path = s.path;
  is_dir = s.is_dir;
  off = s.off;
  left = s.left;
  waiting = bytes;
}

taken_short : (s : State) (b : ℕ) → length (s.waiting ++ b ∷ []) < need s.phase s.left (s.waiting ++ b ∷ []) → taken s b ≡ (with_byte s b, [])
unfolding taken
taken_short s b h = ap (λ (t : Bool). cond t (with_byte s b, []) (turn (with_byte s b))) (lt-ltb (length (s.waiting ++ b ∷ [])) (need s.phase s.left (s.waiting ++ b ∷ [])) h)

taken_full : (s : State) (b : ℕ) → need s.phase s.left (s.waiting ++ b ∷ []) ≤ length (s.waiting ++ b ∷ []) → taken s b ≡ turn (with_byte s b)
unfolding taken
taken_full s b h = ap (λ (t : Bool). cond t (with_byte s b, []) (turn (with_byte s b))) (le-ltb (length (s.waiting ++ b ∷ [])) (need s.phase s.left (s.waiting ++ b ∷ [])) h)

last_turn : (t : Turn) → ((fed t.0 []).0, t.1 ++ (fed t.0 []).1) ≡ t
last_turn t = ap (λ (r : Turn). (r.0, t.1 ++ r.1)) (fed-nil t.0) ∙ ap (λ (l : List Command). (t.0, l)) (append-nil t.1)

-- bytes of which all but the last leave too few are looked at together
pub fed_gather : (w : List ℕ) (s : State) → w ≢ [] → ((v x : List ℕ) → w ≡ v ++ x → x ≢ [] → length (s.waiting ++ v) < need s.phase s.left (s.waiting ++ v)) → need s.phase s.left (s.waiting ++ w) ≤ length (s.waiting ++ w) → fed s w ≡ turn (with_waiting s (s.waiting ++ w))
fed_gather [] s some short full = absurd (some refl)
fed_gather (b ∷ []) s some short full =
    fed-cons s b [] ∙ ap (λ (t : Turn). ((fed t.0 []).0, t.1 ++ (fed t.0 []).1)) (taken_full s b full) ∙ last_turn (turn (with_byte s b))
fed_gather (b ∷ c ∷ w) s some short full =
    let one = append_assoc s.waiting (b ∷ []) in
    fed-cons s b (c ∷ w)
    ∙ ap (λ (t : Turn). ((fed t.0 (c ∷ w)).0, t.1 ++ (fed t.0 (c ∷ w)).1)) (taken_short s b (short (b ∷ []) (c ∷ w) refl (λ e. cc)))
    ∙ fed_gather (c ∷ w) (with_byte s b) (λ e. cc)
    (λ v x e n. subst (λ (l : List ℕ). length l < need s.phase s.left l) (sym (append_assoc s.waiting (b ∷ []) v)) (short (b ∷ v) x (ap (λ (l : List ℕ). b ∷ l) e) n))
    (subst (λ (l : List ℕ). need s.phase s.left l ≤ length l) (sym (append_assoc s.waiting (b ∷ []) (c ∷ w))) full)
    ∙ ap (λ (l : List ℕ). turn (with_waiting s l)) (append_assoc s.waiting (b ∷ []) (c ∷ w))

-- a front that isn't all is shorter
pub front_shorter : (w v x : List ℕ) → w ≡ v ++ x → x ≢ [] → length v < length w
front_shorter w v [] e n = absurd (n refl)
front_shorter w v (b ∷ x) e n = omega (arith, ap length e, length-append v (b ∷ x))

-- ---- the bytes of a file

-- in the middle of a file
abbrev pub midway : State → ℕ → ℕ → State
midway s off left = record {
  target = s.target;
  phase = phase_with left;
  last = s.last;
  path = s.path;
  is_dir = s.is_dir;
  off = off;
  left = left;
  waiting = [];
}

-- so many bytes are written together
chunk_is : (left : ℕ) (l : List ℕ) → length l ≡ left → length (take write_limit l) ≡ chunk_size left
chunk_is left l h =
    let by : (t : Bool) → nat_lt left write_limit ≡ t → length (take write_limit l) ≡ cond t left write_limit = λ t. elim t as (λ t. nat_lt left write_limit ≡ t → length (take write_limit l) ≡ cond t left write_limit) [
      | true ↦ λ e. omega (arith, length-take write_limit l, ltb-true left write_limit e, h)
      | false ↦ λ e. omega (arith, length-take write_limit l, ltb-false left write_limit e, h)
    ] in by (nat_lt left write_limit) refl

-- a place among bytes of a file
abbrev reading : State → ℕ → ℕ → State
reading s off left = record {
  target = s.target;
  phase = Data;
  last = s.last;
  path = s.path;
  is_dir = s.is_dir;
  off = off;
  left = left;
  waiting = [];
}

data_phase : (left : ℕ) → 0 < left → phase_with left ≡ Data
data_phase left h = ap (λ (t : Bool). cond t Next Data) (ne_eqb left 0 (λ e. omega arith))

some_length : (l : List ℕ) → l ≢ [] → 0 < length l
some_length [] h = absurd (h refl)
some_length (b ∷ l) h = omega arith

-- as many bytes as are written together
chunk_fed : (s : State) (off left : ℕ) (c r : List ℕ) → c ≢ [] → left ≡ length c + length r → length c ≡ chunk_size left → fed (midway s off left) c ≡ (midway s (off + length c) (length r), Write s.path off c ∷ [])
chunk_fed s off left c r some parts size =
    let at : State = reading s off left in
    let some_c : 0 < length c = some_length c some in
    let in_data : midway s off left ≡ reading s off left = ap (λ (p : Phase). record { target = s.target; phase = p; last = s.last; path = s.path; is_dir = s.is_dir; off = off; left = left; waiting = [] }) (data_phase left (omega arith)) in
    let less : left - length c ≡ length r = omega arith in
    ap (λ (st : State). fed st c) in_data
    ∙ fed_gather c at some (λ v x e n. subst (λ (k : ℕ). length v < k) size (front_shorter c v x e n)) (subst (λ (k : ℕ). k ≤ length c) size (omega arith))
    ∙ ap (λ (k : ℕ). (midway s (off + length c) k, Write s.path off c ∷ [])) less

file_step : (s : State) (off : ℕ) (all c r : List ℕ) (ws : List Command) → c ++ r ≡ all → c ≢ [] → length c ≡ chunk_size (length all) → fed (midway s (off + length c) (length r)) r ≡ (midway s ((off + length c) + length r) 0, ws) → fed (midway s off (length all)) all ≡ (midway s (off + length all) 0, Write s.path off c ∷ ws)
file_step s off all c r ws cut some size rest =
    let start : State = midway s off (length all) in
    let parts : length all ≡ length c + length r = ap length (sym cut) ∙ length-append c r in
    let total : (off + length c) + length r ≡ off + length all = omega (arith, parts) in
    ap (fed start) (sym cut) ∙ fed-append start c r
    ∙ ap (λ (t : Turn). ((fed t.0 r).0, t.1 ++ (fed t.0 r).1)) (chunk_fed s off (length all) c r some parts size)
    ∙ ap (λ (t : Turn). (t.0, (Write s.path off c ∷ []) ++ t.1)) rest
    ∙ ap (λ (k : ℕ). (midway s k 0, Write s.path off c ∷ ws)) total

take_some : (k : ℕ) (l : List ℕ) → 0 < k → l ≢ [] → take k l ≢ []
take_some k l h n = λ e. omega (arith, ap length e, length-take k l, some_length l n)

drop_bound : (k n : ℕ) (l : List ℕ) → 0 < k → length l ≤ suc n → length (drop k l) ≤ n
drop_bound k n l h b = omega (arith, length-drop k l)

-- all bytes of a file are written
pub file_fed : (n : ℕ) (s : State) (off : ℕ) (bytes : List ℕ) → length bytes ≤ n → fed (midway s off (length bytes)) bytes ≡ (midway s (off + length bytes) 0, writes_at n s.path off bytes)
file_fed zero s off [] h =
    let same : off ≡ off + 0 = omega arith in
    fed-nil (midway s off 0) ∙ ap (λ (k : ℕ). (midway s k 0, writes_at zero s.path off [])) same
file_fed (suc n) s off [] h =
    let same : off ≡ off + 0 = omega arith in
    fed-nil (midway s off 0) ∙ ap (λ (k : ℕ). (midway s k 0, writes_at (suc n) s.path off [])) same
file_fed zero s off (b ∷ bytes) h = absurd (omega arith)
file_fed (suc n) s off (b ∷ bytes) h =
    file_step s off (b ∷ bytes) (take write_limit (b ∷ bytes)) (drop write_limit (b ∷ bytes)) (writes_at n s.path (off + length (take write_limit (b ∷ bytes))) (drop write_limit (b ∷ bytes)))
    (take-append-drop write_limit (b ∷ bytes))
    (take_some write_limit (b ∷ bytes) (omega arith) (λ e. cc))
    (chunk_is (length (b ∷ bytes)) (b ∷ bytes) refl)
    (file_fed n s (off + length (take write_limit (b ∷ bytes))) (drop write_limit (b ∷ bytes)) (drop_bound write_limit n (b ∷ bytes) (omega arith) h))
