-- The words that the program is called with.
use Rattle.std.specs.Prelude.{◌≡◌, ◌≤◌, ℕ, nat_le, Bool, true, false, not, ◌&&◌, ◌||◌, List, [], ◌∷◌, ◌==◌, codes, decimal, if◌then◌else◌}
use Rattle.std.specs.Option.{option_and_then, option_map}
use Rattle.std.specs.Str.{all_ascii_digits, bytes_eq}
use Rattle.std.specs.Str.Parse.{digits_value, starts_with_minus, without_leading_sign}
use Rattle.std.specs.declared.option.Option.{Option}
use Rattle.std.specs.declared.option.Option.TheVariants.{None, Some}
use Rattle.bd_limits.specs.Limits.{slot_minimum, slot_limit}

-- what the program is asked to do
pub data Call : Type 0 where
  Run : (image : List ℕ) → Call
  Format : (image : List ℕ) (slots : ℕ) → Call
  Fill : (image : List ℕ) (seed count : ℕ) → Call
  Check : (image : List ℕ) → Call
  Export : (image path : List ℕ) → Call
  Import : (image path : List ℕ) → Call
  Serve : (image : List ℕ) → Call

-- the greatest seed and the greatest number of lines of a fill
abbrev pub seed_limit : ℕ
seed_limit = 4294967295

abbrev pub fill_limit : ℕ
fill_limit = 100000

-- not empty, and not beginning with `-`
abbrev pub is_image : List ℕ → Bool
is_image [] = false
is_image (b ∷ bs) = not (b == 45)

-- not beginning with `-`
abbrev pub is_plain : List ℕ → Bool
is_plain [] = true
is_plain (b ∷ bs) = not (b == 45)

-- `-` and more
abbrev pub is_flag : List ℕ → Bool
is_flag [] = false
is_flag (b ∷ []) = false
is_flag (b ∷ c ∷ bs) = b == 45

-- `--`
abbrev pub is_dashes : List ℕ → Bool
is_dashes word = bytes_eq word (45 ∷ 45 ∷ [])

-- the values among the words after the verb: the first `--` is left out, and before it there is no
-- flag
abbrev pub values_in : List (List ℕ) → Option (List (List ℕ))
values_in [] = Some []
values_in (w ∷ ws) =
    if is_dashes w then Some ws else (if is_flag w then None
    else option_map (λ vs. w ∷ vs) (values_in ws))

-- at least one decimal digit and nothing else
abbrev pub are_digits : List ℕ → Bool
are_digits [] = false
are_digits (b ∷ bs) = all_ascii_digits (b ∷ bs)

-- the word is a number from `least` to `most`: digits, before which a `+` may stand, or before zeros
-- a `-`
abbrev pub is_number : ℕ → ℕ → List ℕ → Bool
is_number least most word =
    let n = digits_value 10 (without_leading_sign word) in
    are_digits (without_leading_sign word)
    && ((not (starts_with_minus word) || n == 0) && (nat_le least n && nat_le n most))

-- the number that the word is
abbrev pub number_in : ℕ → ℕ → List ℕ → Option ℕ
number_in least most word =
    if is_number least most word then Some (digits_value 10 (without_leading_sign word)) else None

-- an image's name isn't empty
abbrev pub image_in : List ℕ → Option (List ℕ)
image_in [] = None
image_in (b ∷ bs) = Some (b ∷ bs)

abbrev pub slots_in : List ℕ → Option ℕ
slots_in = number_in slot_minimum slot_limit

abbrev pub seed_in : List ℕ → Option ℕ
seed_in = number_in 0 seed_limit

abbrev pub count_in : List ℕ → Option ℕ
count_in = number_in 0 fill_limit

-- the call of a verb that IMAGE follows, as `run IMAGE`
abbrev pub of_image : (List ℕ → Call) → List (List ℕ) → Option Call
of_image call (image ∷ []) = option_map call (image_in image)
of_image call _ = None

-- the call of a verb that IMAGE and PATH follow, as `export IMAGE PATH`
abbrev pub of_path : (List ℕ → List ℕ → Call) → List (List ℕ) → Option Call
of_path call (image ∷ path ∷ []) = option_map (λ i. call i path) (image_in image)
of_path call _ = None

-- the call of `format IMAGE SLOTS`
abbrev pub format_of : List (List ℕ) → Option Call
format_of (image ∷ slots ∷ []) = option_and_then (λ i. option_map (Format i) (slots_in slots)) (image_in image)
format_of _ = None

-- the call of `fill IMAGE SEED COUNT`
abbrev pub fill_of : List (List ℕ) → Option Call
fill_of (image ∷ seed ∷ count ∷ []) = option_and_then (λ i. option_and_then (λ s.
    option_map (Fill i s) (count_in count)) (seed_in seed)) (image_in image)
fill_of _ = None

-- the call of a verb with its values, if it has them
abbrev pub verb_of : List ℕ → Option (List (List ℕ)) → Option Call
verb_of verb values =
    if bytes_eq (codes "run") verb then option_and_then (of_image Run) values
    else (if bytes_eq (codes "format") verb then option_and_then format_of values
    else (if bytes_eq (codes "fill") verb then option_and_then fill_of values
    else (if bytes_eq (codes "check") verb then option_and_then (of_image Check) values
    else (if bytes_eq (codes "export") verb then option_and_then (of_path Export) values
    else (if bytes_eq (codes "import") verb then option_and_then (of_path Import) values
    else (if bytes_eq (codes "serve") verb then option_and_then (of_image Serve) values
    else None))))))

-- the call that the words make: `PROGRAM run IMAGE`, `PROGRAM format IMAGE SLOTS`, `PROGRAM fill
-- IMAGE SEED COUNT`, `PROGRAM check IMAGE`, `PROGRAM export IMAGE PATH`, `PROGRAM import IMAGE PATH`
-- or `PROGRAM serve IMAGE`; other words are refused
abbrev pub call_of : List (List ℕ) → Option Call
call_of [] = None
call_of (program ∷ []) = None
call_of (program ∷ verb ∷ words) = verb_of verb (values_in words)

-- ---- the forms

-- `PROGRAM VERB IMAGE`, as of `run`, `check` and `serve`
pub record IsOfImage (verb image : List ℕ) (words : List (List ℕ)) : Type 0 where
  pub program : List ℕ
  pub words_are : words ≡ program ∷ verb ∷ image ∷ []

-- `PROGRAM VERB IMAGE PATH`, as of `export` and `import`, with a path that doesn't begin with `-`
-- and may be empty
pub record IsOfPath (verb image path : List ℕ) (words : List (List ℕ)) : Type 0 where
  pub program : List ℕ
  pub words_are : words ≡ program ∷ verb ∷ image ∷ path ∷ []
  pub plain : is_plain path ≡ true

-- `PROGRAM format IMAGE SLOTS`, with 24 to 65,536 slots in decimal digits
pub record IsFormat (image : List ℕ) (slots : ℕ) (words : List (List ℕ)) : Type 0 where
  pub program : List ℕ
  pub words_are : words ≡ program ∷ codes "format" ∷ image ∷ decimal slots ∷ []
  pub at_least : slot_minimum ≤ slots
  pub at_most : slots ≤ slot_limit

-- `PROGRAM fill IMAGE SEED COUNT`, with numbers within their limits in decimal digits
pub record IsFill (image : List ℕ) (seed count : ℕ) (words : List (List ℕ)) : Type 0 where
  pub program : List ℕ
  pub words_are : words ≡ program ∷ codes "fill" ∷ image ∷ decimal seed ∷ decimal count ∷ []
  pub seed_at_most : seed ≤ seed_limit
  pub count_at_most : count ≤ fill_limit

-- the words have a call's form
abbrev pub HasForm : Call → List (List ℕ) → Type 0
HasForm (Run image) words = (is_image image ≡ true) × IsOfImage (codes "run") image words
HasForm (Format image slots) words = (is_image image ≡ true) × IsFormat image slots words
HasForm (Fill image seed count) words = (is_image image ≡ true) × IsFill image seed count words
HasForm (Check image) words = (is_image image ≡ true) × IsOfImage (codes "check") image words
HasForm (Export image path) words =
    (is_image image ≡ true) × IsOfPath (codes "export") image path words
HasForm (Import image path) words =
    (is_image image ≡ true) × IsOfPath (codes "import") image path words
HasForm (Serve image) words = (is_image image ≡ true) × IsOfImage (codes "serve") image words
