-- What `clap` makes of the words after each verb.
use Rattle.std.proofs.Common.{◌≡◌, ◌∙◌, inl, inr, ℕ, Bool, true, false, not, cond, ◌&&◌, ◌||◌, ◌==◌, List, [], ◌∷◌, refl, sym, ap, ap₂, subst, codes, Option, Some, None, arith, true≢false, nat_lt, lt-ltb}
use Rattle.std.specs.Prelude.{length, pos}
use Rattle.std.specs.Option.{option_and_then, option_map, option_map_or}
use Rattle.std.specs.List.{AllByRecursion, find, fold, list_all}
use Rattle.std.specs.Str.{IsUtf8, bytes_eq}
use Rattle.clap.proofs.OnLiterals.{clap_on_literals}
use Rattle.clap.specs.Kinds.{Kinds, or_else}
use Rattle.clap.specs.declared.error.kind.ErrorKind.{ErrorKind}
use Rattle.clap.specs.declared.error.kind.ErrorKind.TheVariants as kind
use Rattle.std.specs.Str.Parse.{digits_value, without_leading_sign}
use Rattle.clap.specs.ValueTests.{accepts}
use Rattle.clap.specs.Walk.{Held, Rule, Text, arg_by_index, arg_by_long, arg_by_short, finished, nothing_held, rows_after, settled, walked}
use Rattle.clap.specs.Simple.{App, Shape, built_leaf, inherited, marked_built, on_top, with_leaf_noted}
use Rattle.clap.specs.Faults.{check_fault, defaults_fault, level_fault, settle_fault, walk_fault}
use Rattle.clap.specs.declared.builder.value_parser.ValueParser.TheVariants.{Signed}
use Rattle.bd_limits.specs.Limits.{slot_minimum, slot_limit}
use Rattle.bd_words.specs.Words.{Call, Fill, is_number, seed_in, count_in, seed_limit, fill_limit, of_image, of_path, format_of, fill_of, values_in}
use Rattle.bd_words.specs.Line.{HasRows, fill_line, format_line, image_line, image_row, line, path_line, path_row}
use Rattle.bd_words.proofs.NumberWords.{number_same}
use Rattle.bd_words.proofs.Reading.{IsHelp, NeverTrails, Follows, at, follows, help, left_refused, refused}

-- ---- one level of a parse

abbrev pub closing : Shape → Bool → Kinds → Kinds → Held → Kinds
closing s has below f end = or_else f (or_else below (or_else (settle_fault s.rules s.args_override_self end)
    (or_else (defaults_fault (settled s.rules end).rows s.rules) (check_fault s (finished s.rules end) has))))

-- the words after a verb make this call
abbrev pub Reads : Shape → List Text → Option Call → Type 0
Reads s ws None = level_fault s [] nothing_held ws false [] ≡ [] → ⊥
Reads s ws (Some call) = (level_fault s [] nothing_held ws false [] ≡ []) × HasRows call (rows_after s.rules [] ws)

-- these values make this call
abbrev pub Ends : Shape → List Text → Option Call → Type 0
Ends s vs None = closing s false [] (walk_fault s [] (at true [] None false 1) vs) (fold (walked s.rules []) (at true [] None false 1) vs).held ≡ [] → ⊥
Ends s vs (Some call) = (closing s false [] (walk_fault s [] (at true [] None false 1) vs) (fold (walked s.rules []) (at true [] None false 1) vs).held ≡ [])
    × HasRows call (finished s.rules (fold (walked s.rules []) (at true [] None false 1) vs).held)

find_never : (p : Rule → Bool) (c : List Rule) → list_all (λ a. not a.trailing_var_arg) c ≡ true → NeverTrails (find p c)
find_never p [] e = refl
find_never p (a ∷ c) e = go (find_never p c) (p a) a.trailing_var_arg refl e
  where
    go : (list_all (λ a. not a.trailing_var_arg) c ≡ true → NeverTrails (find p c)) → (b t : Bool) → a.trailing_var_arg ≡ t → (not t && list_all (λ a. not a.trailing_var_arg) c) ≡ true → NeverTrails (cond b (Some a) (find p c))
    go rest b true t e = absurd (true≢false (sym e))
    go rest true false t e = t
    go rest false false t e = rest e

module _ (s : Shape) (longs : (name : Text) → IsHelp (arg_by_long s.rules name)) (shorts : (x : ℕ) → IsHelp (arg_by_short s.rules x))
    (never : (i : ℕ) → NeverTrails (arg_by_index s.rules i)) (of : List Text → Option Call) (ends : (vs : List Text) → Ends s vs (of vs)) where
  reads : (ws : List Text) → AllByRecursion IsUtf8 ws → Reads s ws (option_and_then of (values_in ws))
  reads ws utf8 = go (values_in ws) (follows s longs shorts never ws [] None false 1 utf8)
    where
      with_call : (vs : List Text) (o : Option Call) → Ends s vs o → Follows s longs shorts never false [] None false 1 ws (Some vs) → Reads s ws o
      with_call vs None e h = λ f. e (sym (ap₂ (closing s false []) h.0 h.1) ∙ f)
      with_call vs (Some call) e h = (
        ap₂ (closing s false []) h.0 h.1 ∙ e.0,
        subst (HasRows call) (sym (ap (finished s.rules) h.1)) e.1,
      )

      go : (o : Option (List Text)) → Follows s longs shorts never false [] None false 1 ws o → Reads s ws (option_and_then of o)
      go None h = left_refused _ _ h
      go (Some vs) h = with_call vs (of vs) (ends vs) h

-- ---- the verbs

pub helps : (b : Bool) → IsHelp (cond b (Some help) None)
helps true = inr refl
helps false = inl refl

-- the program's own settings, as its verbs take them
abbrev above : Shape
above = (on_top with_leaf_noted (on_top marked_built line)).top

-- a verb as `clap` has built it
abbrev pub verb_shape : App → Shape
verb_shape verb = built_leaf (inherited above verb.top)

abbrev at_index : ℕ → Rule → Bool
at_index i a = option_map_or (λ k. k == i) a.index false

-- a text that isn't empty
named : (b : ℕ) (bs : Text) → nat_lt 0 (length (b ∷ bs)) ≡ true
named b bs = lt-ltb 0 (length (b ∷ bs)) (omega arith)

-- ---- verbs that IMAGE follows

abbrev pub image_shape : Text → Shape
image_shape verb = verb_shape (image_line verb)

image_longs : (verb name : Text) → IsHelp (arg_by_long (image_shape verb).rules name)
image_longs verb name = helps (bytes_eq (codes "help") name || false)

image_shorts : (verb : Text) (x : ℕ) → IsHelp (arg_by_short (image_shape verb).rules x)
image_shorts verb x = helps ((104 == x) || false)

image_never : (verb : Text) (i : ℕ) → NeverTrails (arg_by_index (image_shape verb).rules i)
image_never verb i = find_never (at_index i) (image_shape verb).rules refl

image_ends : (verb : Text) (call : Text → Call) → ((image : Text) → HasRows (call image) (image_row image ∷ [])) → (vs : List Text)
    → Ends (image_shape verb) vs (of_image call vs)
unfolding clap_on_literals
image_ends verb call has [] = refused _ refl
image_ends verb call has ([] ∷ []) = refused _ refl
image_ends verb call has ((b ∷ bs) ∷ []) = (rw (named b bs) refl, has (b ∷ bs))
image_ends verb call has (a ∷ b ∷ vs) = refused _ refl

pub image_reads : (verb : Text) (call : Text → Call) → ((image : Text) → HasRows (call image) (image_row image ∷ [])) → (ws : List Text) → AllByRecursion IsUtf8 ws
    → Reads (image_shape verb) ws (option_and_then (of_image call) (values_in ws))
image_reads verb call has = reads (image_shape verb) (image_longs verb) (image_shorts verb) (image_never verb) (of_image call) (image_ends verb call has)

-- ---- verbs that IMAGE and PATH follow

abbrev pub path_shape : Text → Shape
path_shape verb = verb_shape (path_line verb)

path_longs : (verb name : Text) → IsHelp (arg_by_long (path_shape verb).rules name)
path_longs verb name = helps (bytes_eq (codes "help") name || false)

path_shorts : (verb : Text) (x : ℕ) → IsHelp (arg_by_short (path_shape verb).rules x)
path_shorts verb x = helps ((104 == x) || false)

path_never : (verb : Text) (i : ℕ) → NeverTrails (arg_by_index (path_shape verb).rules i)
path_never verb i = find_never (at_index i) (path_shape verb).rules refl

path_ends : (verb : Text) (call : Text → Text → Call) → ((image path : Text) → HasRows (call image path) (image_row image ∷ path_row path ∷ [])) → (vs : List Text)
    → Ends (path_shape verb) vs (of_path call vs)
unfolding clap_on_literals
path_ends verb call has [] = refused _ refl
path_ends verb call has ([] ∷ []) = refused _ refl
path_ends verb call has ((b ∷ bs) ∷ []) = λ e. refused _ refl (rw (named b bs) at e)
path_ends verb call has ([] ∷ path ∷ []) = refused _ refl
path_ends verb call has ((b ∷ bs) ∷ path ∷ []) = (rw (named b bs) refl, has (b ∷ bs) path)
path_ends verb call has ([] ∷ path ∷ c ∷ vs) = refused _ refl
path_ends verb call has ((b ∷ bs) ∷ path ∷ c ∷ vs) = λ e. refused _ refl (rw (named b bs) at e)

pub path_reads : (verb : Text) (call : Text → Text → Call) → ((image path : Text) → HasRows (call image path) (image_row image ∷ path_row path ∷ [])) → (ws : List Text)
    → AllByRecursion IsUtf8 ws → Reads (path_shape verb) ws (option_and_then (of_path call) (values_in ws))
path_reads verb call has = reads (path_shape verb) (path_longs verb) (path_shorts verb) (path_never verb) (of_path call) (path_ends verb call has)

-- ---- `format`

abbrev pub format_shape : Shape
format_shape = verb_shape format_line

abbrev accepted : ℕ → ℕ → Text → Bool
accepted least most = accepts false (Signed (pos least) (pos most))

format_longs : (name : Text) → IsHelp (arg_by_long format_shape.rules name)
format_longs name = helps (bytes_eq (codes "help") name || false)

format_shorts : (x : ℕ) → IsHelp (arg_by_short format_shape.rules x)
format_shorts x = helps ((104 == x) || false)

format_never : (i : ℕ) → NeverTrails (arg_by_index format_shape.rules i)
format_never i = find_never (at_index i) format_shape.rules refl

format_both : (b : ℕ) (bs slots : Text) (t : Bool) → accepted slot_minimum slot_limit slots ≡ t → is_number slot_minimum slot_limit slots ≡ t
    → Ends format_shape ((b ∷ bs) ∷ slots ∷ []) (format_of ((b ∷ bs) ∷ slots ∷ []))
unfolding clap_on_literals
format_both b bs slots true a n = rw n (rw (named b bs, a) refl, (slots, refl, rw n refl))
format_both b bs slots false a n = rw n (λ e. refused _ refl (rw (named b bs, a) at e))

format_ends : (vs : List Text) → Ends format_shape vs (format_of vs)
unfolding clap_on_literals
format_ends [] = refused _ refl
format_ends ([] ∷ []) = refused _ refl
format_ends ((b ∷ bs) ∷ []) = λ e. refused _ refl (rw (named b bs) at e)
format_ends ([] ∷ slots ∷ []) = refused _ refl
format_ends ((b ∷ bs) ∷ slots ∷ []) = format_both b bs slots _ (number_same slot_minimum slot_limit slots (omega arith)) refl
format_ends ([] ∷ slots ∷ c ∷ vs) = refused _ refl
format_ends ((b ∷ bs) ∷ slots ∷ c ∷ vs) = λ e. refused _ refl (rw (named b bs) at e)

pub format_reads : (ws : List Text) → AllByRecursion IsUtf8 ws → Reads format_shape ws (option_and_then format_of (values_in ws))
format_reads = reads format_shape format_longs format_shorts format_never format_of format_ends

-- ---- `fill`

abbrev pub fill_shape : Shape
fill_shape = verb_shape fill_line

fill_longs : (name : Text) → IsHelp (arg_by_long fill_shape.rules name)
fill_longs name = helps (bytes_eq (codes "help") name || false)

fill_shorts : (x : ℕ) → IsHelp (arg_by_short fill_shape.rules x)
fill_shorts x = helps ((104 == x) || false)

fill_never : (i : ℕ) → NeverTrails (arg_by_index fill_shape.rules i)
fill_never i = find_never (at_index i) fill_shape.rules refl

fill_two : (b : ℕ) (bs seed : Text) (t : Bool) → accepted 0 seed_limit seed ≡ t → Ends fill_shape ((b ∷ bs) ∷ seed ∷ []) None
unfolding clap_on_literals
fill_two b bs seed true a = λ e. refused _ refl (rw (named b bs, a) at e)
fill_two b bs seed false a = λ e. refused _ refl (rw (named b bs, a) at e)

abbrev refused_if : ErrorKind → Bool → Kinds
refused_if k passes = or_else (cond passes [] (k ∷ [])) []

-- a name, a number and a number in turn
abbrev three : Bool → Bool → Bool → Kinds
three name first second =
    or_else (or_else (refused_if kind.InvalidValue name) (or_else (refused_if kind.ValueValidation first) []))
    (or_else (refused_if kind.ValueValidation second) [])

fill_fault : (b : ℕ) (bs seed count : Text) → closing fill_shape false [] (walk_fault fill_shape [] (at true [] None false 1) ((b ∷ bs) ∷ seed ∷ count ∷ []))
    (fold (walked fill_shape.rules []) (at true [] None false 1) ((b ∷ bs) ∷ seed ∷ count ∷ [])).held
    ≡ three (nat_lt 0 (length (b ∷ bs))) (accepted 0 seed_limit seed) (accepted 0 fill_limit count)
unfolding clap_on_literals
fill_fault b bs seed count = refl

fill_passes : (b : ℕ) (bs seed count : Text) (s n : ℕ) → accepted 0 seed_limit seed ≡ true → accepted 0 fill_limit count ≡ true → seed_in seed ≡ Some s → count_in count ≡ Some n
    → Ends fill_shape ((b ∷ bs) ∷ seed ∷ count ∷ []) (Some (Fill (b ∷ bs) s n))
unfolding clap_on_literals
fill_passes b bs seed count s n a d is_seed is_count =
    (fill_fault b bs seed count ∙ (λ i. three (named b bs i) (a i) (d i)), (seed, count, refl, is_seed, is_count))

fill_seed : (b : ℕ) (bs seed count : Text) → accepted 0 seed_limit seed ≡ false → Ends fill_shape ((b ∷ bs) ∷ seed ∷ count ∷ []) None
fill_seed b bs seed count a e = refused _ refl (sym (λ i. three (named b bs i) (a i) (accepted 0 fill_limit count)) ∙ (sym (fill_fault b bs seed count) ∙ e))

fill_count : (b : ℕ) (bs seed count : Text) → accepted 0 seed_limit seed ≡ true → accepted 0 fill_limit count ≡ false → Ends fill_shape ((b ∷ bs) ∷ seed ∷ count ∷ []) None
fill_count b bs seed count a d e = refused _ refl (sym (λ i. three (named b bs i) (a i) (d i)) ∙ (sym (fill_fault b bs seed count) ∙ e))

-- the call of three values, of which the first is a name
abbrev filling : Text → Option ℕ → Option ℕ → Option Call
filling image seed count = option_and_then (λ s. option_map (Fill image s) count) seed

fill_all : (b : ℕ) (bs seed count : Text) (t u : Bool) → is_number 0 seed_limit seed ≡ t → is_number 0 fill_limit count ≡ u
    → Ends fill_shape ((b ∷ bs) ∷ seed ∷ count ∷ []) (filling (b ∷ bs) (seed_in seed) (count_in count))
fill_all b bs seed count true true n m =
    let s : seed_in seed ≡ Some (digits_value 10 (without_leading_sign seed)) = rw n refl in
    let k : count_in count ≡ Some (digits_value 10 (without_leading_sign count)) = rw m refl in
    subst (Ends fill_shape ((b ∷ bs) ∷ seed ∷ count ∷ [])) (sym (ap₂ (filling (b ∷ bs)) s k))
    (fill_passes b bs seed count _ _ (number_same 0 seed_limit seed (omega arith) ∙ n) (number_same 0 fill_limit count (omega arith) ∙ m) s k)
fill_all b bs seed count true false n m =
    let s : seed_in seed ≡ Some (digits_value 10 (without_leading_sign seed)) = rw n refl in
    let k : count_in count ≡ None = rw m refl in
    subst (Ends fill_shape ((b ∷ bs) ∷ seed ∷ count ∷ [])) (sym (ap₂ (filling (b ∷ bs)) s k))
    (fill_count b bs seed count (number_same 0 seed_limit seed (omega arith) ∙ n) (number_same 0 fill_limit count (omega arith) ∙ m))
fill_all b bs seed count false u n m =
    let s : seed_in seed ≡ None = rw n refl in
    subst (Ends fill_shape ((b ∷ bs) ∷ seed ∷ count ∷ [])) (sym (ap (λ o. filling (b ∷ bs) o (count_in count)) s))
    (fill_seed b bs seed count (number_same 0 seed_limit seed (omega arith) ∙ n))

fill_more : (b : ℕ) (bs seed count d : Text) (vs : List Text) (t : Bool) → accepted 0 seed_limit seed ≡ t → Ends fill_shape ((b ∷ bs) ∷ seed ∷ count ∷ d ∷ vs) None
unfolding clap_on_literals
fill_more b bs seed count d vs true a = λ e. refused _ refl (rw (named b bs, a) at e)
fill_more b bs seed count d vs false a = λ e. refused _ refl (rw (named b bs, a) at e)

fill_ends : (vs : List Text) → Ends fill_shape vs (fill_of vs)
unfolding clap_on_literals
fill_ends [] = refused _ refl
fill_ends ([] ∷ []) = refused _ refl
fill_ends ((b ∷ bs) ∷ []) = λ e. refused _ refl (rw (named b bs) at e)
fill_ends ([] ∷ seed ∷ []) = refused _ refl
fill_ends ((b ∷ bs) ∷ seed ∷ []) = fill_two b bs seed _ refl
fill_ends ([] ∷ seed ∷ count ∷ []) = refused _ refl
fill_ends ((b ∷ bs) ∷ seed ∷ count ∷ []) =
    fill_all b bs seed count _ _ refl refl
fill_ends ([] ∷ seed ∷ count ∷ d ∷ vs) = refused _ refl
fill_ends ((b ∷ bs) ∷ seed ∷ count ∷ d ∷ vs) = fill_more b bs seed count d vs _ refl

pub fill_reads : (ws : List Text) → AllByRecursion IsUtf8 ws → Reads fill_shape ws (option_and_then fill_of (values_in ws))
fill_reads = reads fill_shape fill_longs fill_shorts fill_never fill_of fill_ends
