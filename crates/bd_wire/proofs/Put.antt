-- A write over the first bytes of what stands from a place on.
use Rattle.std.proofs.Common.{◌≡◌, ℕ, ◌+◌, ◌-◌, ◌≤◌, List, [], ◌++◌, length, take, drop, sym, ap, ◌∙◌, arith, append_assoc, append-nil, length-append}
use Rattle.std.proofs.lemmas.List.{take_at, drop_at, drop_all, take_rest, length-take-le, length-drop}
use borrow.Rule.Slice.PartMut.{put_mid}

-- nothing stands after the end
nothing_after : (a : ℕ) (xs : List ℕ) → drop (length xs - a) (drop a xs) ≡ []
nothing_after a xs = drop_all (length xs - a) (drop a xs) (omega (arith, length-drop a xs))

-- the whole array after its end was replaced, with what stood before the place and the bytes as one list
put_mid-is : (a n : ℕ) (xs bytes part : List ℕ) → part ≡ bytes ++ drop n (take (length xs - a) (drop a xs)) → put_mid a (length xs - a) xs part ≡ (take a xs ++ bytes) ++ drop n (drop a xs)
put_mid-is a n xs bytes part e =
    ap (λ tail. take a xs ++ (part ++ tail)) (nothing_after a xs)
    ∙ ap (λ r. take a xs ++ r) (append-nil part ∙ e ∙ ap (λ r. bytes ++ drop n r) (take_rest xs a))
    ∙ sym (append_assoc (take a xs) bytes (drop n (drop a xs)))

length-front : (a n : ℕ) (xs bytes : List ℕ) → a ≤ length xs → length bytes ≡ n → length (take a xs ++ bytes) ≡ a + n
length-front a n xs bytes h e = omega (arith, length-append (take a xs) bytes, length-take-le a xs h)

-- the bytes stand after what stood before the place
pub take-put_at : (a n : ℕ) (xs bytes part : List ℕ) → a ≤ length xs → length bytes ≡ n → part ≡ bytes ++ drop n (take (length xs - a) (drop a xs)) → take (a + n) (put_mid a (length xs - a) xs part) ≡ take a xs ++ bytes
take-put_at a n xs bytes part h l e =
    ap (take (a + n)) (put_mid-is a n xs bytes part e) ∙ take_at (take a xs ++ bytes) (drop n (drop a xs)) (a + n) (length-front a n xs bytes h l)

-- and after them stands what stood there
pub drop-put_at : (a n : ℕ) (xs bytes part : List ℕ) → a ≤ length xs → length bytes ≡ n → part ≡ bytes ++ drop n (take (length xs - a) (drop a xs)) → drop (a + n) (put_mid a (length xs - a) xs part) ≡ drop n (drop a xs)
drop-put_at a n xs bytes part h l e =
    ap (drop (a + n)) (put_mid-is a n xs bytes part e) ∙ drop_at (take a xs ++ bytes) (drop n (drop a xs)) (a + n) (length-front a n xs bytes h l)
