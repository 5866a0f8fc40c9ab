-- Records one after the other, and the buffer that they wait in.
use Rattle.std.proofs.Common.{◌≡◌, ℕ, zero, suc, ◌+◌, ◌-◌, ◌*◌, ◌^◌, ◌<◌, ◌≤◌, List, [], ◌∷◌, ◌++◌, length, take, drop, refl, sym, ap, subst, ◌∙◌, arith, append_assoc, append-nil, length-append}
use Rattle.std.proofs.lemmas.List.{take_at, drop_at, drop-take, drop-append-le, length-take, length-take-le, length-drop, length-replicate}
use Rattle.std.proofs.lemmas.List.Folds.{concat-append}
use Rattle.std.proofs.Math.Seq.{take-append-add}
use Rattle.std.specs.List.{concat, AllByRecursion}
use Rattle.std.specs.Int.{w16}
use Rattle.bd_wire.specs.Numbers.{be, number_at}
use Rattle.bd_wire.specs.Text.{text16, zeros}
use Rattle.bd_wire.proofs.NumberLemmas.{number_at-be, length-be}
use Rattle.bd_wire.proofs.TextLemmas.{length-text16}
use Rattle.bd_log.specs.Batches.{IsLogRecord, records_in, header_bytes, blocks_for, body_blocks, body_bytes}
use Rattle.bd_log.specs.Logs.{IsBuffer, room_at}

-- a record begins with how long it is
record_length : (r after : List ℕ) → IsLogRecord r → 2 + number_at w16 (r ++ after) ≡ length r
unfolding text16
record_length r after h =
    let start : r ++ after ≡ be w16 (length h.0) ++ (h.0 ++ after) = ap (λ l. l ++ after) h.2 ∙ append_assoc (be w16 (length h.0)) h.0 after in
    let read : number_at w16 (r ++ after) ≡ length h.0 = ap (number_at w16) start ∙ number_at-be w16 (length h.0) (h.0 ++ after) (omega (arith, h.1)) in
    let size : length r ≡ 2 + length h.0 = ap length h.2 ∙ length-text16 h.0 in
    omega (arith, read, size)

-- records are found again, whatever follows them
pub records_in-concat : (rs : List (List ℕ)) (after : List ℕ) → AllByRecursion IsLogRecord rs → records_in (length rs) (concat rs ++ after) ≡ rs
records_in-concat [] after h = refl
records_in-concat (r ∷ rs) after h =
    let bytes : List ℕ = (r ++ concat rs) ++ after in
    let whole : bytes ≡ r ++ (concat rs ++ after) = append_assoc r (concat rs) after in
    let size : 2 + number_at w16 bytes ≡ length r = ap (λ l. 2 + number_at w16 l) whole ∙ record_length r (concat rs ++ after) h.0 in
    let first : take (2 + number_at w16 bytes) bytes ≡ r = ap (λ n. take n bytes) size ∙ ap (take (length r)) whole ∙ take_at r (concat rs ++ after) (length r) refl in
    let rest : drop (2 + number_at w16 bytes) bytes ≡ concat rs ++ after = ap (λ n. drop n bytes) size ∙ ap (drop (length r)) whole ∙ drop_at r (concat rs ++ after) (length r) refl in
    let others : records_in (length rs) (drop (2 + number_at w16 bytes) bytes) ≡ rs = ap (records_in (length rs)) rest ∙ records_in-concat rs after h.1 in
    cc

pub length-records_in : (count : ℕ) (bytes : List ℕ) → length (records_in count bytes) ≡ count
length-records_in zero bytes = refl
length-records_in (suc count) bytes = ap suc (length-records_in count (drop (2 + number_at w16 bytes) bytes))

-- each record has two bytes or more
pub records_size : (rs : List (List ℕ)) → AllByRecursion IsLogRecord rs → 2 * length rs ≤ length (concat rs)
records_size [] h = omega arith
records_size (r ∷ rs) h =
    omega (arith, records_size rs h.1, ap length h.0.2, length-text16 h.0.0, length-append r (concat rs))

-- one record more
pub each_more : (rs : List (List ℕ)) (r : List ℕ) → AllByRecursion IsLogRecord rs → IsLogRecord r → AllByRecursion IsLogRecord (rs ++ r ∷ [])
each_more [] r h is = (is, tt)
each_more (s ∷ rs) r h is = (h.0, each_more rs r h.1 is)

pub length-more : {A : Type 0} (xs : List A) (x : A) → length (xs ++ x ∷ []) ≡ length xs + 1
length-more xs x = length-append xs (x ∷ [])

pub concat-more : (rs : List (List ℕ)) (r : List ℕ) → concat (rs ++ r ∷ []) ≡ concat rs ++ r
concat-more rs r = concat-append rs (r ∷ []) ∙ ap (λ l. concat rs ++ l) (append-nil r)

-- the bytes that were there, and those put after them
put_after : (size : ℕ) (body r : List ℕ) → 24 + size ≤ length body
    → take (size + length r) (drop 24 (take (24 + size) body ++ r ++ drop (24 + size + length r) body)) ≡ take size (drop 24 body) ++ r
put_after size body r le =
    let front = take (24 + size) body in
    let rest = drop (24 + size + length r) body in
    let size_is : length front ≡ 24 + size = length-take-le (24 + size) body le in
    let opened : drop 24 (front ++ r ++ rest) ≡ (take size (drop 24 body) ++ r) ++ rest =
    drop-append-le 24 (front ++ r) rest (omega (arith, size_is, length-append front r))
    ∙ ap (λ l. l ++ rest) (drop-append-le 24 front r (omega (arith, size_is)) ∙ ap (λ l. l ++ r) (drop-take 24 size body)) in
    let there : length (take size (drop 24 body)) ≡ size = length-take-le size (drop 24 body) (omega (arith, length-drop 24 body, le)) in
    ap (take (size + length r)) opened
    ∙ take_at (take size (drop 24 body) ++ r) rest (size + length r) (omega (arith, there, length-append (take size (drop 24 body)) r))

-- the bytes that wait
pub waiting_size : (place size count : ℕ) (body : List ℕ) → IsBuffer place size count body → length (concat (records_in count (take size (drop 24 body)))) ≡ size
waiting_size place size count body h =
    ap length h.whole ∙ length-take-le size (drop 24 body) (omega (arith, h.room, h.total, length-drop 24 body))

-- What a record more leaves in the buffer, and which records wait then.
pub record IsMore (place size count : ℕ) (body r new : List ℕ) : Type 0 where
  pub buffer : IsBuffer place (size + length r) (count + 1) new
  pub records : records_in (count + 1) (take (size + length r) (drop 24 new)) ≡ records_in count (take size (drop 24 body)) ++ r ∷ []

pub buffer_more : (place size count : ℕ) (body r new : List ℕ) → IsBuffer place size count body → IsLogRecord r → size + length r ≤ room_at place
    → new ≡ take (24 + size) body ++ r ++ drop (24 + size + length r) body → length new ≡ length body → IsMore place size count body r new
buffer_more place size count body r new h is room put same =
    let rs = records_in count (take size (drop 24 body)) in
    let all : List (List ℕ) = rs ++ r ∷ [] in
    let bytes : take (size + length r) (drop 24 new) ≡ take size (drop 24 body) ++ r =
    ap (λ l. take (size + length r) (drop 24 l)) put ∙ put_after size body r (omega (arith, h.room, h.total)) in
    let whole : take (size + length r) (drop 24 new) ≡ concat all = bytes ∙ ap (λ l. l ++ r) (sym h.whole) ∙ sym (concat-more rs r) in
    let many : length all ≡ count + 1 = length-more rs r ∙ ap (λ n. n + 1) (length-records_in count (take size (drop 24 body))) in
    let each : AllByRecursion IsLogRecord all = each_more rs r h.each is in
    let found : records_in (count + 1) (take (size + length r) (drop 24 new)) ≡ all =
    ap (records_in (count + 1)) (whole ∙ sym (append-nil (concat all))) ∙ ap (λ n. records_in n (concat all ++ [])) (sym many) ∙ records_in-concat all [] each in
    record {
      buffer = record {
        total = same ∙ h.total;
        room = room;
        whole = ap concat found ∙ sym whole;
        each = subst (AllByRecursion IsLogRecord) (sym found) each;
      };
      records = found;
    }

-- so many records wait that a u32 counts one more
pub count_fits : (place size count : ℕ) (body : List ℕ) → IsBuffer place size count body → count + 1 < 2 ^ 32
count_fits place size count body h =
    omega (arith, records_size (records_in count (take size (drop 24 body))) h.each, length-records_in count (take size (drop 24 body)), waiting_size place size count body h, h.room)

-- ---- the body of a batch

pub header_length : (blocks epoch count size : ℕ) → length (header_bytes blocks epoch count size) ≡ 24
header_length blocks epoch count size = simp (length-append, length-be)

-- what a header put over the front leaves
pub headed : (header result body new : List ℕ) → length header ≡ 24 → result ≡ header → new ≡ result ++ drop (0 + length result) body → new ≡ header ++ drop 24 body
headed header result body new h is put =
    let size : 0 + length header ≡ 24 = omega (arith, h) in
    put ∙ ap (λ l. l ++ drop (0 + length l) body) is ∙ ap (λ n. header ++ drop n body) size

-- a header in front, and zeros after so many bytes, up to an end
pub sealed : (size end : ℕ) (header body part : List ℕ) → length header ≡ 24 → 24 + size ≤ end → end ≤ length body → part ≡ zeros (end - (24 + size))
    → take end (take (24 + size) (header ++ drop 24 body) ++ (part ++ drop (end - (24 + size)) (drop (24 + size) (header ++ drop 24 body))))
    ≡ header ++ take size (drop 24 body) ++ zeros (end - (24 + size))
sealed size end header body part h le le' is =
    let count = end - (24 + size) in
    let front : take (24 + size) (header ++ drop 24 body) ≡ header ++ take size (drop 24 body) =
    ap (λ n. take (n + size) (header ++ drop 24 body)) (sym h) ∙ take-append-add header (drop 24 body) size in
    let there : length (take size (drop 24 body)) ≡ size = length-take-le size (drop 24 body) (omega (arith, length-drop 24 body, le, le')) in
    let zeroed : length part ≡ count = ap length is ∙ length-replicate {A = ℕ} count 0 in
    let start : List ℕ = (header ++ take size (drop 24 body)) ++ part in
    let after = drop count (drop (24 + size) (header ++ drop 24 body)) in
    ap (λ l. take end (l ++ (part ++ after))) front
    ∙ ap (take end) (sym (append_assoc (header ++ take size (drop 24 body)) part after))
    ∙ take_at start after end (omega (arith, length-append (header ++ take size (drop 24 body)) part, length-append header (take size (drop 24 body)), there, zeroed, h, le))
    ∙ ap (λ l. (header ++ take size (drop 24 body)) ++ l) is

-- the bytes before those that were put stay
pub kept_front : (size : ℕ) (header body new rest : List ℕ) → length header ≡ 24 → 24 + size ≤ length body → new ≡ header ++ drop 24 body
    → take size (drop 24 (take (24 + size) new ++ rest)) ≡ take size (drop 24 body)
kept_front size header body new rest h le is =
    let long : length new ≡ length body = omega (arith, ap length is, length-append header (drop 24 body), h, length-drop 24 body, le) in
    let front : length (take (24 + size) new) ≡ 24 + size = length-take-le (24 + size) new (omega (arith, long, le)) in
    let inner : drop 24 (take (24 + size) new) ≡ take size (drop 24 body) =
    drop-take 24 size new ∙ ap (λ l. take size (drop 24 l)) is ∙ ap (take size) (drop_at header (drop 24 body) 24 h) in
    let there : length (take size (drop 24 body)) ≡ size = length-take-le size (drop 24 body) (omega (arith, length-drop 24 body, le)) in
    ap (take size) (drop-append-le 24 (take (24 + size) new) rest (omega (arith, front)) ∙ ap (λ l. l ++ rest) inner)
    ∙ take_at (take size (drop 24 body)) rest size there

pub take_take : (n k : ℕ) (xs : List ℕ) → n ≤ k → take n (take k xs) ≡ take n xs
take_take zero k xs le = refl
take_take (suc n) zero xs le = absurd (omega arith)
take_take (suc n) (suc k) [] le = refl
take_take (suc n) (suc k) (x ∷ xs) le = ap (λ l. x ∷ l) (take_take n k xs (omega arith))

-- what is sealed is as long as its blocks
pub sealed_length : (size blocks epoch count : ℕ) (old new : List ℕ) → take (blocks * 4096) new ≡ header_bytes blocks epoch count size ++ take size (drop 24 old) ++ zeros (blocks * 4096 - (24 + size))
    → 24 + size ≤ blocks * 4096 → blocks * 4096 ≤ length old → blocks * 4096 ≤ length new
sealed_length size blocks epoch count old new is le le' =
    let header = header_bytes blocks epoch count size in
    let middle = take size (drop 24 old) in
    let tail = zeros (blocks * 4096 - (24 + size)) in
    let there : length middle ≡ size = length-take-le size (drop 24 old) (omega (arith, length-drop 24 old, le, le')) in
    omega (arith, ap length is, length-take (blocks * 4096) new, length-append (header ++ middle) tail, length-append header middle, header_length blocks epoch count size, there, length-replicate {A = ℕ} (blocks * 4096 - (24 + size)) 0, le)

-- the sealed body is that of the waiting records
pub body_is : (place size count blocks epoch : ℕ) (body : List ℕ) → IsBuffer place size count body → blocks ≡ blocks_for size
    → header_bytes blocks epoch count size ++ take size (drop 24 body) ++ zeros (blocks * 4096 - (24 + size)) ≡ body_bytes epoch (records_in count (take size (drop 24 body)))
body_is place size count blocks epoch body h is =
    let rs = records_in count (take size (drop 24 body)) in
    let bytes : size ≡ length (concat rs) = sym (waiting_size place size count body h) in
    let many : count ≡ length rs = sym (length-records_in count (take size (drop 24 body))) in
    let all : blocks ≡ body_blocks rs = is ∙ ap blocks_for bytes in
    ap (λ l. header_bytes blocks epoch count size ++ l ++ zeros (blocks * 4096 - (24 + size))) (sym h.whole)
    ∙ ap (λ n. header_bytes n epoch count size ++ concat rs ++ zeros (n * 4096 - (24 + size))) all
    ∙ ap (λ n. header_bytes (body_blocks rs) epoch n size ++ concat rs ++ zeros (body_blocks rs * 4096 - (24 + size))) many
    ∙ ap (λ n. header_bytes (body_blocks rs) epoch (length rs) n ++ concat rs ++ zeros (body_blocks rs * 4096 - (24 + n))) bytes

-- where something waits, its batch fits the half
pub fits_half : (place size count blocks : ℕ) (body : List ℕ) → IsBuffer place size count body → ¬ (count ≡ 0) → blocks ≡ blocks_for size → place + 1 + blocks ≤ 63
fits_half place size count blocks body h some is =
    omega (arith, records_size (records_in count (take size (drop 24 body))) h.each, length-records_in count (take size (drop 24 body)), waiting_size place size count body h, h.room, some, is)

-- what was put is as long as what it was put over
pub put_length : (at : ℕ) (body r : List ℕ) → at + length r ≤ length body → length (take at body ++ r ++ drop (at + length r) body) ≡ length body
put_length at body r le =
    omega (arith, length-append (take at body ++ r) (drop (at + length r) body), length-append (take at body) r, length-take-le at body (omega arith), length-drop (at + length r) body)
