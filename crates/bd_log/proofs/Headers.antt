-- Headers and bodies are read as they are written.
use Rattle.std.proofs.Common.{◌≡◌, ℕ, ◌+◌, ◌-◌, ◌*◌, ◌^◌, ◌<◌, ◌≤◌, List, [], ◌∷◌, ◌++◌, length, take, drop, sym, ap, subst, ◌∙◌, arith, append_assoc, length-append, Option, None, Some}
use Rattle.std.proofs.lemmas.List.{take_at, drop_at, take-append-drop, length-take-le, length-drop, length-replicate, drop-drop}
use Rattle.std.specs.List.{concat, AllByRecursion}
use Rattle.std.specs.Prelude.{IfSome}
use Rattle.std.specs.Int.{w32, w64}
use Rattle.bd_wire.specs.Numbers.{be, FitsWidth}
use Rattle.bd_wire.specs.Text.{zeros, AreZeros, text16, FitsText16}
use Rattle.bd_wire.specs.Encoding.{IsPrefixFree, BeginsNone, FitsBoth, encode_both}
use Rattle.bd_wire.proofs.NumberLemmas.{IsPrefixFree-be}
use Rattle.bd_wire.proofs.EncodingLemmas.{IsPrefixFree-both}
use Rattle.bd_wire.proofs.TextLemmas.{IsPrefixFree-text16}
use Rattle.bd_log.specs.Batches.{IsLogRecord, batch_magic, blocks_for, body_blocks, header_bytes, body_bytes}
use Rattle.bd_log.specs.Reading.{encode_header, FitsHeader, AreRecordsOf, IsBodyOf}
use Rattle.bd_log.specs.declared.decode.Header.{Header}
use Rattle.bd_log.proofs.Buffers.{header_length, records_size, each_more, length-more, concat-more}

-- headers are prefix-free
head_alone : IsPrefixFree (FitsBoth (FitsBoth (FitsBoth (FitsBoth (FitsWidth w32) (FitsWidth w32)) (FitsWidth w64)) (FitsWidth w32)) (FitsWidth w32))
    (encode_both (encode_both (encode_both (encode_both (be w32) (be w32)) (be w64)) (be w32)) (be w32))
head_alone =
    let a = FitsWidth w32 in
    let l = FitsWidth w64 in
    let p1 = IsPrefixFree-both a a (be w32) (be w32) (IsPrefixFree-be w32) (IsPrefixFree-be w32) in
    let p2 = IsPrefixFree-both (FitsBoth a a) l (encode_both (be w32) (be w32)) (be w64) p1 (IsPrefixFree-be w64) in
    let p3 = IsPrefixFree-both (FitsBoth (FitsBoth a a) l) a (encode_both (encode_both (be w32) (be w32)) (be w64)) (be w32) p2 (IsPrefixFree-be w32) in
    IsPrefixFree-both (FitsBoth (FitsBoth (FitsBoth a a) l) a) a (encode_both (encode_both (encode_both (be w32) (be w32)) (be w64)) (be w32)) (be w32) p3 (IsPrefixFree-be w32)

-- What a header is that was written with these numbers, and what follows it.
pub record IsHeaderOf (h : Header) (blocks epoch count size : ℕ) (rest after : List ℕ) : Type 0 where
  pub mark : h.magic ≡ batch_magic
  pub many : h.blocks ≡ blocks
  pub time : h.epoch ≡ epoch
  pub records : h.count ≡ count
  pub bytes : h.size ≡ size
  pub follows : rest ≡ after

pub header_is : (h : Header) (blocks epoch count size : ℕ) (bytes rest after : List ℕ) → FitsHeader h → blocks < 2 ^ 32 → epoch < 2 ^ 64 → count < 2 ^ 32 → size < 2 ^ 32
    → bytes ≡ encode_header h ++ rest → bytes ≡ header_bytes blocks epoch count size ++ after → IsHeaderOf h blocks epoch count size rest after
header_is h blocks epoch count size bytes rest after f b e c s read written =
    let same = head_alone ((((h.magic, h.blocks), h.epoch), h.count), h.size) ((((batch_magic, blocks), epoch), count), size) rest after
    ((((omega (arith, f.magic), omega (arith, f.blocks)), omega (arith, f.epoch)), omega (arith, f.count)), omega (arith, f.size))
    ((((omega arith, omega arith), omega arith), omega arith), omega arith) (sym read ∙ written) in
    record {
      mark = ap (λ (v : (((ℕ × ℕ) × ℕ) × ℕ) × ℕ). v.0.0.0.0) same.0;
      many = ap (λ (v : (((ℕ × ℕ) × ℕ) × ℕ) × ℕ). v.0.0.0.1) same.0;
      time = ap (λ (v : (((ℕ × ℕ) × ℕ) × ℕ) × ℕ). v.0.0.1) same.0;
      records = ap (λ (v : (((ℕ × ℕ) × ℕ) × ℕ) × ℕ). v.0.1) same.0;
      bytes = ap (λ (v : (((ℕ × ℕ) × ℕ) × ℕ) × ℕ). v.1) same.0;
      follows = same.1;
    }

-- two headers at the front are one
pub headers_same : (blocks epoch count size blocks' epoch' count' size' : ℕ) (rest after : List ℕ)
    → blocks < 2 ^ 32 → epoch < 2 ^ 64 → count < 2 ^ 32 → size < 2 ^ 32 → blocks' < 2 ^ 32 → epoch' < 2 ^ 64 → count' < 2 ^ 32 → size' < 2 ^ 32
    → header_bytes blocks epoch count size ++ rest ≡ header_bytes blocks' epoch' count' size' ++ after
    → (blocks ≡ blocks') × (count ≡ count') × (size ≡ size') × (rest ≡ after)
headers_same blocks epoch count size blocks' epoch' count' size' rest after b e c s b' e' c' s' same =
    let all = head_alone ((((batch_magic, blocks), epoch), count), size) ((((batch_magic, blocks'), epoch'), count'), size') rest after
    ((((omega arith, omega arith), omega arith), omega arith), omega arith) ((((omega arith, omega arith), omega arith), omega arith), omega arith) same in
    (ap (λ (v : (((ℕ × ℕ) × ℕ) × ℕ) × ℕ). v.0.0.0.1) all.0, ap (λ (v : (((ℕ × ℕ) × ℕ) × ℕ) × ℕ). v.0.1) all.0, ap (λ (v : (((ℕ × ℕ) × ℕ) × ℕ) × ℕ). v.1) all.0, all.1)

-- a body fills its blocks
pub body_length : (epoch : ℕ) (rs : List (List ℕ)) → length (body_bytes epoch rs) ≡ body_blocks rs * 4096
body_length epoch rs =
    let size = length (concat rs) in
    let header = header_bytes (body_blocks rs) epoch (length rs) size in
    omega (arith, length-append (header ++ concat rs) (zeros (body_blocks rs * 4096 - (24 + size))), length-append header (concat rs), header_length (body_blocks rs) epoch (length rs) size, length-replicate {A = ℕ} (body_blocks rs * 4096 - (24 + size)) 0)

-- the header of a body, and what follows it
pub body_header : (h : Header) (blocks epoch : ℕ) (bytes rest : List ℕ) (rs : List (List ℕ)) → FitsHeader h → blocks ≤ 62 → epoch < 2 ^ 64 → length bytes ≡ blocks * 4096
    → bytes ≡ encode_header h ++ rest → AllByRecursion IsLogRecord rs → bytes ≡ body_bytes epoch rs
    → IsHeaderOf h (body_blocks rs) epoch (length rs) (length (concat rs)) rest (concat rs ++ zeros (body_blocks rs * 4096 - (24 + length (concat rs)))) × (body_blocks rs ≡ blocks)
body_header h blocks epoch bytes rest rs f few e long read each written =
    let size = length (concat rs) in
    let all : body_blocks rs ≡ blocks = omega (arith, body_length epoch rs, ap length written, long) in
    let tail = zeros (body_blocks rs * 4096 - (24 + size)) in (
      header_is h (body_blocks rs) epoch (length rs) size bytes rest (concat rs ++ tail) f (omega (arith, all)) e (omega (arith, all, records_size rs each)) (omega (arith, all))
          read (written ∙ append_assoc (header_bytes (body_blocks rs) epoch (length rs) size) (concat rs) tail),
      all,
    )

-- what follows the records of a body is zeros
pub body_zeros : (epoch size : ℕ) (bytes : List ℕ) (rs : List (List ℕ)) → size ≡ length (concat rs) → bytes ≡ body_bytes epoch rs → AreZeros (drop (24 + size) bytes)
body_zeros epoch size bytes rs is written =
    let header = header_bytes (body_blocks rs) epoch (length rs) (length (concat rs)) in
    let tail = zeros (body_blocks rs * 4096 - (24 + length (concat rs))) in
    let at : length (header ++ concat rs) ≡ 24 + size = omega (arith, length-append header (concat rs), header_length (body_blocks rs) epoch (length rs) (length (concat rs)), is) in
    let there : drop (24 + size) bytes ≡ tail = ap (drop (24 + size)) written ∙ drop_at (header ++ concat rs) tail (24 + size) at in
    let long : length tail ≡ body_blocks rs * 4096 - (24 + length (concat rs)) = length-replicate {A = ℕ} (body_blocks rs * 4096 - (24 + length (concat rs))) 0 in
    there ∙ ap zeros (sym (ap length there ∙ long))

-- the records of a body
pub body_records : (epoch size : ℕ) (bytes : List ℕ) (rs : List (List ℕ)) → size ≡ length (concat rs) → bytes ≡ body_bytes epoch rs → concat rs ≡ take size (drop 24 bytes)
body_records epoch size bytes rs is written =
    let header = header_bytes (body_blocks rs) epoch (length rs) (length (concat rs)) in
    let tail = zeros (body_blocks rs * 4096 - (24 + length (concat rs))) in
    let long = header_length (body_blocks rs) epoch (length rs) (length (concat rs)) in
    let opened : drop 24 bytes ≡ concat rs ++ tail = ap (drop 24) (written ∙ append_assoc header (concat rs) tail) ∙ drop_at header (concat rs ++ tail) 24 long in
    sym (ap (take size) opened ∙ take_at (concat rs) tail size (sym is))

-- What the checks of a reader say of the bytes.
pub record IsChecked (h : Header) (epoch blocks : ℕ) (bytes rest : List ℕ) : Type 0 where
  pub fits : FitsHeader h
  pub read : bytes ≡ encode_header h ++ rest
  pub few : blocks ≤ 62
  pub limit : epoch < 2 ^ 64
  pub long : length bytes ≡ blocks * 4096
  pub mark : h.magic ≡ batch_magic
  pub many : h.blocks ≡ blocks
  pub time : h.epoch ≡ epoch
  pub some : 1 ≤ h.count
  pub size : blocks_for h.size ≡ blocks
  pub zeroed : AreZeros (drop (24 + h.size) bytes)

-- then the bytes are a body exactly where the records are there
pub body_from : (h : Header) (epoch blocks : ℕ) (bytes rest : List ℕ) (found : Option (List (List ℕ))) → IsChecked h epoch blocks bytes rest
    → AreRecordsOf (take h.size (drop 24 bytes)) h.count found → IsBodyOf bytes epoch found
body_from h epoch blocks bytes rest None k none = λ rs some each written.
    let head = body_header h blocks epoch bytes rest rs k.fits k.few k.limit k.long k.read each written in
    none rs (sym head.0.records) each (body_records epoch h.size bytes rs head.0.bytes written)
body_from h epoch blocks bytes rest (Some rs) k there =
    let size : length (take h.size (drop 24 bytes)) ≡ h.size = length-take-le h.size (drop 24 bytes) (omega (arith, length-drop 24 bytes, k.long, k.size)) in
    let sum : h.size ≡ length (concat rs) = sym size ∙ ap length (sym there.2) in
    let all : blocks ≡ body_blocks rs = sym k.size ∙ ap blocks_for sum in
    let header = encode_header h in
    let header_is : header ≡ header_bytes (body_blocks rs) epoch (length rs) (length (concat rs)) =
    ap (λ n. be w32 n ++ be w32 h.blocks ++ be w64 h.epoch ++ be w32 h.count ++ be w32 h.size) k.mark
    ∙ ap (λ n. be w32 batch_magic ++ be w32 n ++ be w64 h.epoch ++ be w32 h.count ++ be w32 h.size) (k.many ∙ all)
    ∙ ap (λ n. be w32 batch_magic ++ be w32 (body_blocks rs) ++ be w64 n ++ be w32 h.count ++ be w32 h.size) k.time
    ∙ ap (λ n. be w32 batch_magic ++ be w32 (body_blocks rs) ++ be w64 epoch ++ be w32 n ++ be w32 h.size) (sym there.0)
    ∙ ap (λ n. be w32 batch_magic ++ be w32 (body_blocks rs) ++ be w64 epoch ++ be w32 (length rs) ++ be w32 n) sum in
    let long : length header ≡ 24 = ap length header_is ∙ header_length (body_blocks rs) epoch (length rs) (length (concat rs)) in
    let after : drop 24 bytes ≡ rest = ap (drop 24) k.read ∙ drop_at header rest 24 long in
    let tail : List ℕ = drop (24 + h.size) bytes in
    let cut : drop 24 bytes ≡ concat rs ++ tail =
    sym (take-append-drop h.size (drop 24 bytes)) ∙ ap (λ l. l ++ drop h.size (drop 24 bytes)) (sym there.2) ∙ ap (λ l. concat rs ++ l) (drop-drop h.size 24 bytes) in
    let count : length tail ≡ body_blocks rs * 4096 - (24 + length (concat rs)) = omega (arith, length-drop (24 + h.size) bytes, k.long, all, sum) in
    let ends : tail ≡ zeros (body_blocks rs * 4096 - (24 + length (concat rs))) = k.zeroed ∙ ap zeros count in (
      omega (arith, there.0, k.some),
      there.1,
      k.read ∙ ap (λ l. header ++ l) (sym after ∙ cut ∙ ap (λ l. concat rs ++ l) ends)
          ∙ ap (λ l. l ++ (concat rs ++ zeros (body_blocks rs * 4096 - (24 + length (concat rs))))) header_is
          ∙ sym (append_assoc (header_bytes (body_blocks rs) epoch (length rs) (length (concat rs))) (concat rs) (zeros (body_blocks rs * 4096 - (24 + length (concat rs))))),
    )

-- a body found in so many blocks fills them
pub body_size : (epoch blocks : ℕ) (bytes : List ℕ) (found : Option (List (List ℕ))) → length bytes ≡ blocks * 4096 → IsBodyOf bytes epoch found → IfSome found (λ rs. body_blocks rs ≡ blocks)
body_size epoch blocks bytes None long h = tt
body_size epoch blocks bytes (Some rs) long h = omega (arith, ap length h.2, body_length epoch rs, long)

-- ---- records one after the other

-- records at the front of others are their first ones
pub records_front : (rs qs : List (List ℕ)) (left : List ℕ) → AllByRecursion IsLogRecord rs → AllByRecursion IsLogRecord qs → length rs ≤ length qs
    → concat rs ++ left ≡ concat qs → (more : List (List ℕ)) × AllByRecursion IsLogRecord more × (length more + length rs ≡ length qs) × (left ≡ concat more)
records_front [] qs left h k le e = (qs, k, omega arith, e)
records_front (r ∷ rs) [] left h k le e = absurd (omega arith)
records_front (r ∷ rs) (q ∷ qs) left h k le e =
    let same = IsPrefixFree-text16 h.0.0 k.0.0 (concat rs ++ left) (concat qs) h.0.1 k.0.1
    (ap (λ l. l ++ (concat rs ++ left)) (sym h.0.2) ∙ sym (append_assoc r (concat rs) left) ∙ e ∙ ap (λ l. l ++ concat qs) k.0.2) in
    let rest = records_front rs qs left h.1 k.1 (omega arith) same.1 in
    (rest.0, rest.1, omega (arith, rest.2), rest.3)

begins : (left : List ℕ) → BeginsNone FitsText16 text16 left → (more : List (List ℕ)) → AllByRecursion IsLogRecord more → 1 ≤ length more → left ≡ concat more → ⊥
begins left none [] h some e = absurd (omega arith)
begins left none (r ∷ rs) h some e = none h.0.0 (concat rs) h.0.1 (e ∙ ap (λ l. l ++ concat rs) h.0.2)

-- where no record follows so many, there aren't more
pub too_few : (count : ℕ) (bytes left : List ℕ) (rs : List (List ℕ)) → bytes ≡ concat rs ++ left → AllByRecursion IsLogRecord rs → length rs < count → BeginsNone FitsText16 text16 left
    → (qs : List (List ℕ)) → length qs ≡ count → AllByRecursion IsLogRecord qs → concat qs ≡ bytes → ⊥
too_few count bytes left rs read each lt none qs many k e =
    let front = records_front rs qs left each k (omega arith) (sym read ∙ sym e) in
    begins left none front.0 front.1 (omega (arith, front.2)) front.3

ends : {left : List ℕ} (more : List (List ℕ)) → length more ≡ 0 → left ≡ concat more → ¬ (length left ≡ 0) → ⊥
ends [] none e some = some (ap length e)
ends (r ∷ rs) none e some = absurd (omega arith)

-- nor where something follows them all
pub too_long : (count : ℕ) (bytes left : List ℕ) (rs : List (List ℕ)) → bytes ≡ concat rs ++ left → AllByRecursion IsLogRecord rs → length rs ≡ count → ¬ (length left ≡ 0)
    → (qs : List (List ℕ)) → length qs ≡ count → AllByRecursion IsLogRecord qs → concat qs ≡ bytes → ⊥
too_long count bytes left rs read each is some qs many k e =
    let front = records_front rs qs left each k (omega arith) (sym read ∙ sym e) in
    ends front.0 (omega (arith, front.2)) front.3 some

-- one record more was read
pub records_more : (bytes left after r : List ℕ) (rs new : List (List ℕ)) → bytes ≡ concat rs ++ left → AllByRecursion IsLogRecord rs → IsLogRecord r → left ≡ r ++ after → new ≡ rs ++ r ∷ []
    → (bytes ≡ concat new ++ after) × (length new ≡ length rs + 1) × AllByRecursion IsLogRecord new
records_more bytes left after r rs new read each is front more = (
  read ∙ ap (λ l. concat rs ++ l) front ∙ sym (append_assoc (concat rs) r after) ∙ ap (λ l. l ++ after) (sym (ap concat more ∙ concat-more rs r)),
  ap length more ∙ length-more rs r,
  subst (AllByRecursion IsLogRecord) (sym more) (each_more rs r each is),
)
