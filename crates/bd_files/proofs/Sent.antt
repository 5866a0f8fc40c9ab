-- The messages of a write, one after the other, and what they come to.
use Rattle.std.proofs.Common.{◌≡◌, ℕ, zero, suc, ◌+◌, ◌-◌, ◌/◌, ◌%◌, ◌<◌, ◌≤◌, ◌⊎◌, inl, inr, List, [], ◌∷◌, ◌++◌, length, take, drop, min, refl, sym, ap, ◌∙◌, append_assoc, append-nil, arith, length-append}
use Rattle.std.proofs.lemmas.List.{drop-drop, take_all, drop_all, length-drop}
use Rattle.std.proofs.lemmas.Bool.{cases_lt}
use Rattle.bd_limits.specs.Limits.{block_limit}
use Rattle.bd_message.specs.declared.message.Message.{Message}
use Rattle.bd_message.specs.declared.message.Message.TheVariants.{Patch}
use Rattle.bd_represent.specs.EntryKeys.{block_key}
use Rattle.bd_files.specs.Sends.{patches_of, room_in_block}

-- nothing is sent of no bytes
patches_none : (n : ℕ) (path : List (List ℕ)) (off : ℕ) → patches_of n path off [] ≡ []
patches_none zero path off = refl
patches_none (suc n) path off = refl

-- the first message, and those of what follows
patches_some : (n : ℕ) (path : List (List ℕ)) (off : ℕ) (bytes : List ℕ) → 0 < length bytes
    → patches_of (suc n) path off bytes
    ≡ Patch (block_key path (off / block_limit)) (off % block_limit) (take (room_in_block off) bytes) ∷ patches_of n path (off + room_in_block off) (drop (room_in_block off) bytes)
patches_some n path off [] some = absurd (omega arith)
patches_some n path off (b ∷ bs) some = refl

-- a piece that ends with its block, or with the bytes
patches_piece : (n : ℕ) (path : List (List ℕ)) (off : ℕ) (bytes : List ℕ) (count : ℕ) → 0 < length bytes → count ≡ min (length bytes) (room_in_block off)
    → patches_of (suc n) path off bytes
    ≡ Patch (block_key path (off / block_limit)) (off % block_limit) (take count bytes) ∷ patches_of n path (off + count) (drop count bytes)
patches_piece n path off bytes count some least = patches_some n path off bytes some ∙ by (cases_lt (length bytes) (room_in_block off))
  where
    room : ℕ
    room = room_in_block off

    head : ℕ → Message
    head k = Patch (block_key path (off / block_limit)) (off % block_limit) (take k bytes)

    by : (length bytes < room) ⊎ (room ≤ length bytes) → head room ∷ patches_of n path (off + room) (drop room bytes) ≡ head count ∷ patches_of n path (off + count) (drop count bytes)
    by (inl short) =
        let all : count ≡ length bytes = omega (arith, least) in
        let whole : take room bytes ≡ take count bytes = take_all room bytes (omega (arith, short)) ∙ sym (take_all count bytes (omega (arith, all))) in
        let none : drop room bytes ≡ [] = drop_all room bytes (omega (arith, short)) in
        let none_left : drop count bytes ≡ [] = drop_all count bytes (omega (arith, all)) in
        ap (λ (x : List ℕ). Patch (block_key path (off / block_limit)) (off % block_limit) x ∷ patches_of n path (off + room) (drop room bytes)) whole
        ∙ ap (λ (x : List Message). head count ∷ x) (ap (patches_of n path (off + room)) none ∙ patches_none n path (off + room)
        ∙ sym (ap (patches_of n path (off + count)) none_left ∙ patches_none n path (off + count)))
    by (inr long) =
        let same : room ≡ count = omega (arith, least) in
        ap (λ (k : ℕ). head k ∷ patches_of n path (off + k) (drop k bytes)) same

-- one turn of the loop
pub next_sent : (path : List (List ℕ)) (off : ℕ) (bytes : List ℕ) (list made all : List Message) (m : Message) (d n : ℕ) → length list ≤ 2
    → n ≡ min (length bytes - d) (block_limit - (off + d) % block_limit) → d < length bytes
    → m ≡ Patch (block_key path ((off + d) / block_limit)) ((off + d) % block_limit) (take n (drop d bytes)) → made ≡ list ++ m ∷ []
    → list ++ patches_of (3 - length list) path (off + d) (drop d bytes) ≡ all
    → made ++ patches_of (3 - length made) path (off + (d + n)) (drop (d + n) bytes) ≡ all
next_sent path off bytes list made all m d n few least under is pushed sofar =
    let left : length (drop d bytes) ≡ length bytes - d = length-drop d bytes in
    let one : length made ≡ length list + 1 = ap length pushed ∙ length-append list (m ∷ []) in
    let fuel : 3 - length list ≡ suc (3 - length made) = omega (arith, one, few) in
    let rest : List Message = patches_of (3 - length made) path (off + (d + n)) (drop (d + n) bytes) in
    let first : patches_of (3 - length list) path (off + d) (drop d bytes) ≡ m ∷ rest =
    ap (λ (k : ℕ). patches_of k path (off + d) (drop d bytes)) fuel
    ∙ patches_piece (3 - length made) path (off + d) (drop d bytes) n (omega (arith, left, under)) (omega (arith, least, left))
    ∙ ap (λ (x : Message). x ∷ patches_of (3 - length made) path (off + d + n) (drop n (drop d bytes))) (sym is)
    ∙ ap (λ (k : ℕ). m ∷ patches_of (3 - length made) path k (drop n (drop d bytes))) (omega arith)
    ∙ ap (λ (x : List ℕ). m ∷ patches_of (3 - length made) path (off + (d + n)) x) (drop-drop n d bytes) in
    ap (λ (x : List Message). x ++ rest) pushed ∙ append_assoc list (m ∷ []) rest ∙ ap (λ (x : List Message). list ++ x) (sym first) ∙ sofar

-- at the end nothing is left
pub all_sent : (path : List (List ℕ)) (off : ℕ) (bytes : List ℕ) (list all : List Message) (d : ℕ) → length bytes ≤ d
    → list ++ patches_of (3 - length list) path (off + d) (drop d bytes) ≡ all → list ≡ all
all_sent path off bytes list all d done sofar =
    sym (append-nil list)
    ∙ ap (λ (x : List Message). list ++ x) (sym (ap (patches_of (3 - length list) path (off + d)) (drop_all d bytes done) ∙ patches_none (3 - length list) path (off + d)))
    ∙ sofar
