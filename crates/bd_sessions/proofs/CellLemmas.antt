-- How what is seen of the elements of a list goes on, element by element.
use Rattle.std.proofs.Common.{◌≡◌, ℕ, zero, suc, ◌+◌, ◌<◌, Bool, cond, List, [], ◌∷◌, ◌++◌, length, map, take, drop, set, get_or, not, refl, sym, ap, ◌∙◌, arith}
use Rattle.std.specs.Prelude.{nat_lt}
use Rattle.std.specs.List.{position, position_or_len}
use Rattle.std.specs.declared.option.Option.TheVariants.{None, Some}
use Rattle.std.proofs.lemmas.List.{length-map, map-set, get_or-map, take_more, take_more_set, drop_more, drop-set-lt}

-- an element that is seen as the one that it takes the place of
pub seen_same : {X Y : Type 0} (f : X → Y) (xs : List X) (i : ℕ) (x d : X) → f x ≡ f (get_or xs i d) → map f (set xs i x) ≡ map f xs
seen_same f [] i x d e = refl
seen_same f (y ∷ ys) zero x d e = ap (λ z. z ∷ map f ys) e
seen_same f (y ∷ ys) (suc i) x d e = ap (λ zs. f y ∷ zs) (seen_same f ys i x d e)

-- one more element is seen as it is wanted
pub seen_more : {X Y : Type 0} (f : X → Y) (xs : List X) (ys : List Y) (i : ℕ) (x : X) (d : Y) → i < length xs → length xs ≡ length ys
    → take i (map f xs) ≡ take i ys → f x ≡ get_or ys i d → take (i + 1) (map f (set xs i x)) ≡ take (i + 1) ys
seen_more f xs ys i x d h k before here =
    ap (take (i + 1)) (map-set f xs i x)
    ∙ take_more_set (map f xs) i (f x) (omega (arith, length-map xs f))
    ∙ ap (λ l. l ++ f x ∷ []) before
    ∙ ap (λ y. take i ys ++ y ∷ []) here
    ∙ sym (take_more ys i d (omega arith))

-- ---- what is made ready

-- one more element is ready, and all stand for what they stood for
pub ready_more : {X Y : Type 0} (now next : X → Y) (f : Y → Y) (xs : List X) (ws : List Y) (i : ℕ) (x d : X) → i < length xs → map now xs ≡ ws
    → take i (map next xs) ≡ take i (map f ws) → next x ≡ f (now (get_or xs i d)) → take (i + 1) (map next (set xs i x)) ≡ take (i + 1) (map f ws)
ready_more now next f xs ws i x d h is before here =
    let long : length xs ≡ length ws = sym (length-map xs now) ∙ ap length is in
    let at : get_or ws i (now d) ≡ now (get_or xs i d) = ap (λ l. get_or l i (now d)) (sym is) ∙ get_or-map now xs i d (now d) h in
    seen_more next xs (map f ws) i x (f (now d)) h (long ∙ sym (length-map ws f)) before
    (here ∙ ap f (sym at) ∙ sym (get_or-map f ws i (now d) (f (now d)) (omega arith)))

-- ---- what passes

-- one more element has passed, and the rest are as they were
pub passed_more : {X Y : Type 0} (now next : X → Y) (xs ys : List X) (i : ℕ) (x d : X) → i < length xs → length xs ≡ length ys
    → take i (map now xs) ≡ take i (map next ys) → drop i xs ≡ drop i ys → now x ≡ next (get_or xs i d)
    → (take (i + 1) (map now (set xs i x)) ≡ take (i + 1) (map next ys)) × (drop (i + 1) (set xs i x) ≡ drop (i + 1) ys)
passed_more now next xs ys i x d h k before rest here =
    let both : get_or xs i d ∷ drop (i + 1) xs ≡ get_or ys i d ∷ drop (i + 1) ys = sym (drop_more xs i d h) ∙ rest ∙ drop_more ys i d (omega arith) in
    let same : get_or xs i d ≡ get_or ys i d = cc in
    let after : drop (i + 1) xs ≡ drop (i + 1) ys = cc in (
      seen_more now xs (map next ys) i x (next d) h (k ∙ sym (length-map ys next)) before
          (here ∙ ap next same ∙ sym (get_or-map next ys i d (next d) (omega arith))),
      drop-set-lt (i + 1) xs i x (omega arith) ∙ after,
    )

-- ---- the first that passes a test

position_or_len-map : {X Y : Type 0} (p : Y → Bool) (f : X → Y) (xs : List X) → position_or_len p (map f xs) ≡ position_or_len (λ x. p (f x)) xs
position_or_len-map p f [] = refl
position_or_len-map p f (x ∷ xs) = ap (λ n. cond (not (p (f x))) (1 + n) 0) (position_or_len-map p f xs)

-- the first element that is seen to pass
pub position-map : {X Y : Type 0} (p : Y → Bool) (f : X → Y) (xs : List X) → position p (map f xs) ≡ position (λ x. p (f x)) xs
position-map p f xs =
    ap (λ n. cond (nat_lt n (length (map f xs))) (Some n) None) (position_or_len-map p f xs)
    ∙ ap (λ m. cond (nat_lt (position_or_len (λ x. p (f x)) xs) m) (Some (position_or_len (λ x. p (f x)) xs)) None) (length-map xs f)

-- ---- one element is put back

-- an element changed, as it is seen
pub put_seen : {X Y : Type 0} (now : X → Y) (f : Y → Y) (xs : List X) (i : ℕ) (x y : X) (d : Y) → now y ≡ f (now (get_or xs i x))
    → map now (set xs i y) ≡ set (map now xs) i (f (get_or (map now xs) i d))
put_seen now f [] i x y d new = refl
put_seen now f (z ∷ zs) zero x y d new = ap (λ w. w ∷ map now zs) new
put_seen now f (z ∷ zs) (suc i) x y d new = ap (λ ws. now z ∷ ws) (put_seen now f zs i x y d new)
