-- The text of a reply has no newline, where what it lists are names.
use Rattle.std.proofs.Common.{◌≡◌, ℕ, ◌+◌, ◌<◌, zero, suc, ◌/◌, ◌%◌, Bool, true, false, cond, List, [], ◌∷◌, ◌++◌, length, ◌≤◌, ◌⊎◌, inl, inr, refl, sym, ap, ◌∙◌, take, length-append, arith, nat_eq, eqb-true, get_or}
use Rattle.std.specs.Prelude.{codes, nat_le, nat_lt, ◌||◌}
use Rattle.std.specs.List.{All, flat_map, list_all, list_any}
use Rattle.std.specs.Fmt.{decimal, digits, digits_onto, digit_glyph}
use Rattle.std.proofs.lemmas.Bool.{cases_lt, and_parts, leb-true}
use Rattle.std.proofs.Math.ListN.{get_or-eq_default}
use Rattle.std.proofs.lemmas.List.{flat_map_more, take_more}
use Rattle.std.proofs.lemmas.List.Elements.{All-append, All-nil, All-cons, All-get_or, All-head, All-tail}
use Rattle.hex.specs.Hex.{encode_lower, encode_with, lower_digits}
use Rattle.bd_names.specs.Names.{is_name, is_name_byte}
use Rattle.bd_command.specs.declared.refusal.Refusal.{Refusal}
use Rattle.bd_command.specs.declared.refusal.Refusal.TheVariants.{NotFound, Exists, NoParent, NotDir, IsDir, Inside, Root, TooBig, BadPath, BadLine}
use Rattle.bd_command.specs.declared.reply.Listed.{Listed}
use Rattle.bd_command.specs.declared.reply.Listing.{Listing}
use Rattle.bd_command.specs.declared.reply.Reply.{Reply}
use Rattle.bd_command.specs.declared.reply.Reply.TheVariants.{Done, Bytes, Dir, File, Names, Refused}
use Rattle.bd_script.specs.declared.replies.LineReply.{LineReply}
use Rattle.bd_script.specs.declared.replies.LineReply.TheVariants.{Command, Unread, Walk, Done as Made, Free, Full, Stopped}
use Rattle.bd_script.specs.Lines.{HasNoNewline}
use Rattle.bd_script.specs.Replies.{AreListed, IsNamed, ListsNames, no_text, chunk_text, listed_text, listing_text, octal_digit, mode_text, reply_text, line_reply_text}

-- a byte that is no newline
abbrev IsPlain : ℕ → Type 0
IsPlain b = nat_eq b 10 ≡ false

pub above : (b : ℕ) → 10 < b → nat_eq b 10 ≡ false
above b h = by (nat_eq b 10) refl
  where
    by : (t : Bool) → nat_eq b 10 ≡ t → nat_eq b 10 ≡ false
    by true e = absurd (omega (arith, eqb-true b 10 e))
    by false e = e

-- bytes that stand as they are
pub plain_text : (xs : List ℕ) → list_any (λ b. nat_eq b 10) xs ≡ false → HasNoNewline xs
plain_text [] h = All-nil IsPlain
plain_text (x ∷ xs) h = by (plain_text xs) (nat_eq x 10) refl h
  where
    by : (list_any (λ b. nat_eq b 10) xs ≡ false → HasNoNewline xs) → (t : Bool) → nat_eq x 10 ≡ t → (t || list_any (λ b. nat_eq b 10) xs) ≡ false → HasNoNewline (x ∷ xs)
    by more true e h = cc
    by more false e h = All-cons IsPlain x xs e (more h)

pub plain_join : (xs ys : List ℕ) → HasNoNewline xs → HasNoNewline ys → HasNoNewline (xs ++ ys)
plain_join xs ys h k = All-append IsPlain xs ys h k

plain_more : (x : ℕ) (xs : List ℕ) → 10 < x → HasNoNewline xs → HasNoNewline (x ∷ xs)
plain_more x xs h k = All-cons IsPlain x xs (above x h) k

glyph : (n : ℕ) → 10 < digit_glyph false n
glyph n = by (nat_lt n 10)
  where
    by : (t : Bool) → 10 < cond t (48 + n) (87 + n)
    by true = omega arith
    by false = omega arith

digits_plain : (k n : ℕ) (acc : List ℕ) → HasNoNewline acc → HasNoNewline (digits_onto k 10 false n acc)
digits_plain zero n acc h = h
digits_plain (suc k) n acc h =
    let more : HasNoNewline (digit_glyph false (n % 10) ∷ acc) = plain_more (digit_glyph false (n % 10)) acc (glyph (n % 10)) h in
    by (nat_eq (n / 10) 0) more (digits_plain k (n / 10) (digit_glyph false (n % 10) ∷ acc) more)
  where
    by : (t : Bool) → HasNoNewline (digit_glyph false (n % 10) ∷ acc) → HasNoNewline (digits_onto k 10 false (n / 10) (digit_glyph false (n % 10) ∷ acc))
        → HasNoNewline (cond t (digit_glyph false (n % 10) ∷ acc) (digits_onto k 10 false (n / 10) (digit_glyph false (n % 10) ∷ acc)))
    by true one more = one
    by false one more = more

pub decimal_plain : (n : ℕ) → HasNoNewline (decimal n)
unfolding digits
decimal_plain n = digits_plain 64 n [] (All-nil IsPlain)

-- ---- hex digits, modes and names

hex_digit : (k : ℕ) → nat_eq (get_or lower_digits k 0) 10 ≡ false
hex_digit k = by (cases_lt k (length lower_digits))
  where
    by : (k < length lower_digits) ⊎ (length lower_digits ≤ k) → nat_eq (get_or lower_digits k 0) 10 ≡ false
    by (inl low) = All-get_or IsPlain lower_digits k 0 low (plain_text lower_digits refl)
    by (inr high) = ap (λ b. nat_eq b 10) (get_or-eq_default lower_digits 0 high)

pub hex_plain : (bytes : List ℕ) → HasNoNewline (encode_lower bytes)
unfolding encode_with
hex_plain [] = All-nil IsPlain
hex_plain (b ∷ bytes) =
    All-cons IsPlain (get_or lower_digits (b / 16) 0) (get_or lower_digits (b % 16) 0 ∷ encode_lower bytes) (hex_digit (b / 16))
    (All-cons IsPlain (get_or lower_digits (b % 16) 0) (encode_lower bytes) (hex_digit (b % 16)) (hex_plain bytes))

mode_plain : (mode : ℕ) → HasNoNewline (mode_text mode)
mode_plain mode =
    plain_more (octal_digit (mode / 512)) (octal_digit (mode / 64) ∷ octal_digit (mode / 8) ∷ octal_digit mode ∷ []) (omega arith)
    (plain_more (octal_digit (mode / 64)) (octal_digit (mode / 8) ∷ octal_digit mode ∷ []) (omega arith)
    (plain_more (octal_digit (mode / 8)) (octal_digit mode ∷ []) (omega arith) (plain_more (octal_digit mode) [] (omega arith) (All-nil IsPlain))))

name_bytes : (bs : List ℕ) → list_all is_name_byte bs ≡ true → HasNoNewline bs
name_bytes [] h = All-nil IsPlain
name_bytes (b ∷ bs) h =
    let p = and_parts (is_name_byte b) (list_all is_name_byte bs) h in
    plain_more b bs (omega (arith, leb-true 33 b (and_parts (nat_le 33 b) _ p.0).0)) (name_bytes bs p.1)

pub name_plain : (name : List ℕ) → is_name name ≡ true → HasNoNewline name
name_plain name h =
    let p = and_parts (nat_le 1 (length name)) _ h in
    let q = and_parts (nat_le (length name) 255) _ p.1 in
    name_bytes name (and_parts (list_all is_name_byte name) _ q.1).0

slash_plain : (is_dir : Bool) → HasNoNewline (cond is_dir (47 ∷ []) [])
slash_plain true = plain_text (47 ∷ []) refl
slash_plain false = All-nil IsPlain

more_plain : (more : Bool) → HasNoNewline (cond more (codes " +") [])
more_plain true = plain_text (codes " +") refl
more_plain false = All-nil IsPlain

listed_plain : (l : Listed) → IsNamed l → HasNoNewline (listed_text l)
listed_plain l h = plain_join (32 ∷ l.name) (cond l.is_dir (47 ∷ []) []) (plain_more 32 l.name (omega arith) (name_plain l.name h)) (slash_plain l.is_dir)

names_plain : (ls : List Listed) → All IsNamed ls → HasNoNewline (flat_map listed_text ls)
names_plain [] h = All-nil IsPlain
names_plain (l ∷ ls) h = plain_join (listed_text l) (flat_map listed_text ls) (listed_plain l (All-head IsNamed l ls h)) (names_plain ls (All-tail IsNamed l ls h))

-- one name more
pub names_text : (ls : List Listed) (i : ℕ) (l : Listed) (a now after : List ℕ) → i < length ls → l ≡ get_or ls i l → now ≡ a ++ flat_map listed_text (take i ls)
    → after ≡ now ++ listed_text l → after ≡ a ++ flat_map listed_text (take (i + 1) ls)
names_text ls i l a now after low is was more =
    more ∙ ap (λ bs. bs ++ listed_text l) was ∙ flat_map_more listed_text a (take i ls) l
    ∙ ap (λ ms. a ++ flat_map listed_text ms) (ap (λ m. take i ls ++ m ∷ []) is ∙ sym (take_more ls i l low))

pub names_length : (ls : List Listed) (i : ℕ) (l : Listed) → i < length ls → l ≡ get_or ls i l
    → length (flat_map listed_text (take (i + 1) ls)) ≡ length (flat_map listed_text (take i ls)) + length (listed_text l)
names_length ls i l low is =
    sym (ap length (names_text ls i l [] (flat_map listed_text (take i ls)) (flat_map listed_text (take i ls) ++ listed_text l) low is refl refl))
    ∙ length-append (flat_map listed_text (take i ls)) (listed_text l)

-- ---- replies

refusal_plain : (refusal : Refusal) → HasNoNewline (no_text refusal)
refusal_plain NotFound = plain_text (no_text NotFound) refl
refusal_plain Exists = plain_text (no_text Exists) refl
refusal_plain NoParent = plain_text (no_text NoParent) refl
refusal_plain NotDir = plain_text (no_text NotDir) refl
refusal_plain IsDir = plain_text (no_text IsDir) refl
refusal_plain Inside = plain_text (no_text Inside) refl
refusal_plain Root = plain_text (no_text Root) refl
refusal_plain TooBig = plain_text (no_text TooBig) refl
refusal_plain BadPath = plain_text (no_text BadPath) refl
refusal_plain BadLine = plain_text (no_text BadLine) refl

chunk_plain : (bytes : List ℕ) → HasNoNewline (chunk_text bytes)
chunk_plain [] = All-nil IsPlain
chunk_plain (b ∷ bs) = plain_more 32 (encode_lower (b ∷ bs)) (omega arith) (hex_plain (b ∷ bs))

listing_plain : (l : Listing) → All IsNamed l.names → HasNoNewline (listing_text l)
listing_plain l h =
    plain_join (codes "ok" ++ flat_map listed_text l.names) (cond l.more (codes " +") [])
    (plain_join (codes "ok") (flat_map listed_text l.names) (plain_text (codes "ok") refl) (names_plain l.names h)) (more_plain l.more)

two_plain : (a c : List ℕ) (m n : ℕ) → HasNoNewline a → HasNoNewline c → HasNoNewline (a ++ decimal m ++ c ++ decimal n)
two_plain a c m n h k = plain_join (a ++ decimal m ++ c) (decimal n) (plain_join (a ++ decimal m) c (plain_join a (decimal m) h (decimal_plain m)) k) (decimal_plain n)

reply_plain : (r : Reply) → AreListed r → HasNoNewline (reply_text r)
reply_plain Done h = plain_text (codes "ok") refl
reply_plain (Bytes bytes) h = plain_join (codes "ok") (chunk_text bytes) (plain_text (codes "ok") refl) (chunk_plain bytes)
reply_plain (Dir mode) h = plain_join (codes "ok dir ") (mode_text mode) (plain_text (codes "ok dir ") refl) (mode_plain mode)
reply_plain (File len mode) h =
    plain_join (codes "ok file " ++ decimal len ++ codes " ") (mode_text mode) (plain_join (codes "ok file " ++ decimal len) (codes " ") (plain_join (codes "ok file ") (decimal len) (plain_text (codes "ok file ") refl) (decimal_plain len)) (plain_text (codes " ") refl)) (mode_plain mode)
reply_plain (Names l) h = listing_plain l h
reply_plain (Refused refusal) h = refusal_plain refusal

pub line_reply_plain : (r : LineReply) → ListsNames r → HasNoNewline (line_reply_text r)
line_reply_plain (Command reply) h = reply_plain reply h
line_reply_plain (Unread refusal) h = refusal_plain refusal
line_reply_plain (Walk visits height) h = two_plain (codes "ok walk ") (codes " of ") visits height (plain_text (codes "ok walk ") refl) (plain_text (codes " of ") refl)
line_reply_plain Made h = plain_text (codes "ok") refl
line_reply_plain (Free free slots) h = two_plain (codes "ok free ") (codes " of ") free slots (plain_text (codes "ok free ") refl) (plain_text (codes " of ") refl)
line_reply_plain (Full free need) h = two_plain (codes "full ") (codes " ") free need (plain_text (codes "full ") refl) (plain_text (codes " ") refl)
line_reply_plain Stopped h = plain_text (codes "ok") refl
