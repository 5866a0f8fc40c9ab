-- The forms are calls.
use Rattle.std.proofs.Common.{◌≡◌, ◌∙◌, ◌<◌, ◌≤◌, ◌^◌, ℕ, Bool, true, false, ◌||◌, ◌==◌, not, List, [], ◌∷◌, refl, sym, ap, ap₂, arith, Option, Some, codes, true≢false}
use Rattle.std.specs.Prelude.{decimal, nat_le, option_map, option_and_then}
use Rattle.std.specs.List.{AllByRecursion}
use Rattle.std.specs.Str.Parse.{IsNumeral, digits_value, starts_with_minus, without_leading_sign}
use Rattle.std.proofs.lemmas.Bool.{and_from, false_from_ne_true, le-leb, ne_eqb}
use Rattle.std.proofs.lemmas.Fmt.{decimal_is_IsNumeral}
use Rattle.std.proofs.lemmas.Slice.Eq.{bytes_eq-Decides}
use Rattle.std.proofs.lemmas.Str.Parse.{digit_from_value}
use Rattle.clap.proofs.OnLiterals.{clap_on_literals}
use Rattle.bd_limits.specs.Limits.{slot_minimum, slot_limit}
use Rattle.bd_words.specs.Words.{Call, Run, Format, Fill, Check, Export, Import, Serve, HasForm, IsOfImage, IsOfPath, are_digits, call_of, count_in, fill_limit, fill_of, format_of, is_dashes, is_flag, is_image, is_number, is_plain, number_in, of_image, of_path, seed_in, seed_limit, slots_in, values_in, verb_of}
use Rattle.bd_words.proofs.NumberWords.{digits}

-- ---- words that are values

not_dashes : (b : ℕ) (bs : List ℕ) → (b == 45) ≡ false → is_dashes (b ∷ bs) ≡ false
not_dashes b bs first = false_from_ne_true _ (λ is.
    let same : b ∷ bs ≡ 45 ∷ 45 ∷ [] = (bytes_eq-Decides (b ∷ bs) (45 ∷ 45 ∷ [])).0 is in
    true≢false (sym (ap begins same) ∙ first))
  where
    begins : List ℕ → Bool
    begins [] = false
    begins (b ∷ bs) = b == 45

not_flag : (b : ℕ) (bs : List ℕ) → (b == 45) ≡ false → is_flag (b ∷ bs) ≡ false
not_flag b [] first = refl
not_flag b (c ∷ cs) first = first

not_minus : (b : Bool) → not b ≡ true → b ≡ false
not_minus true e = sym e
not_minus false e = refl

value : (w : List ℕ) → is_plain w ≡ true → (is_dashes w ≡ false) × (is_flag w ≡ false)
value [] is = (refl, refl)
value (b ∷ bs) is = (not_dashes b bs (not_minus (b == 45) is), not_flag b bs (not_minus (b == 45) is))

values : (ws : List (List ℕ)) → AllByRecursion (λ w. is_plain w ≡ true) ws → values_in ws ≡ Some ws
values [] all = refl
values (w ∷ ws) all =
    let is = value w all.0 in
    rw (is.0, is.1) (ap (option_map (λ vs. w ∷ vs)) (values ws all.1))

plain_image : (w : List ℕ) → is_image w ≡ true → is_plain w ≡ true
plain_image [] is = refl
plain_image (b ∷ bs) is = is

-- ---- numbers

written : (least most n : ℕ) (ds : List ℕ) → IsNumeral 10 ds → digits_value 10 ds ≡ n → least ≤ n → n ≤ most
    → (is_image ds ≡ true) × (number_in least most ds ≡ Some n)
written least most n [] h is low high = absurd (omega (arith, h.0))
written least most n (d ∷ ds) h is low high =
    let digit = digit_from_value d h.1.0 in
    let minus : (d == 45) ≡ false = ne_eqb _ _ (λ e. omega (arith, digit)) in
    let plus : (d == 43) ≡ false = ne_eqb _ _ (λ e. omega (arith, digit)) in
    let same : without_leading_sign (d ∷ ds) ≡ d ∷ ds = rw (minus, plus) refl in
    let number : digits_value 10 (without_leading_sign (d ∷ ds)) ≡ n = ap (digits_value 10) same ∙ is in
    let v = digits_value 10 (without_leading_sign (d ∷ ds)) in
    let taken : is_number least most (d ∷ ds) ≡ true = and_from (are_digits (without_leading_sign (d ∷ ds))) _
    (ap are_digits same ∙ digits (d ∷ ds) h)
    (and_from (not (starts_with_minus (d ∷ ds)) || v == 0) _ (rw minus refl)
    (and_from (nat_le least v) (nat_le v most) (le-leb _ _ (omega (arith, number))) (le-leb _ _ (omega (arith, number))))) in
    (rw minus refl, rw taken (ap Some number))

written_decimal : (least most n : ℕ) → least ≤ n → n ≤ most → most < 2 ^ 64 → (is_image (decimal n) ≡ true) × (number_in least most (decimal n) ≡ Some n)
written_decimal least most n low high small =
    let d = decimal_is_IsNumeral n (omega arith) in
    written least most n (decimal n) d.0 d.1 low high

-- ---- verbs

run_verb : (vs : Option (List (List ℕ))) → verb_of (codes "run") vs ≡ option_and_then (of_image Run) vs
unfolding clap_on_literals
run_verb vs = refl

format_verb : (vs : Option (List (List ℕ))) → verb_of (codes "format") vs ≡ option_and_then format_of vs
unfolding clap_on_literals
format_verb vs = refl

fill_verb : (vs : Option (List (List ℕ))) → verb_of (codes "fill") vs ≡ option_and_then fill_of vs
unfolding clap_on_literals
fill_verb vs = refl

check_verb : (vs : Option (List (List ℕ))) → verb_of (codes "check") vs ≡ option_and_then (of_image Check) vs
unfolding clap_on_literals
check_verb vs = refl

export_verb : (vs : Option (List (List ℕ))) → verb_of (codes "export") vs ≡ option_and_then (of_path Export) vs
unfolding clap_on_literals
export_verb vs = refl

import_verb : (vs : Option (List (List ℕ))) → verb_of (codes "import") vs ≡ option_and_then (of_path Import) vs
unfolding clap_on_literals
import_verb vs = refl

serve_verb : (vs : Option (List (List ℕ))) → verb_of (codes "serve") vs ≡ option_and_then (of_image Serve) vs
unfolding clap_on_literals
serve_verb vs = refl

-- ---- the forms

of_one_image : (call : List ℕ → Call) (image : List ℕ) → is_image image ≡ true → of_image call (image ∷ []) ≡ Some (call image)
of_one_image call [] is = absurd (true≢false (sym is))
of_one_image call (b ∷ bs) is = refl

of_one_path : (call : List ℕ → List ℕ → Call) (image path : List ℕ) → is_image image ≡ true → of_path call (image ∷ path ∷ []) ≡ Some (call image path)
of_one_path call [] path is = absurd (true≢false (sym is))
of_one_path call (b ∷ bs) path is = refl

format_of_image : (image slots : List ℕ) (n : ℕ) → is_image image ≡ true → slots_in slots ≡ Some n → format_of (image ∷ slots ∷ []) ≡ Some (Format image n)
format_of_image [] slots n is number = absurd (true≢false (sym is))
format_of_image (b ∷ bs) slots n is number = ap (option_map (Format (b ∷ bs))) number

fill_of_image : (image seed count : List ℕ) (s n : ℕ) → is_image image ≡ true → seed_in seed ≡ Some s → count_in count ≡ Some n
    → fill_of (image ∷ seed ∷ count ∷ []) ≡ Some (Fill image s n)
fill_of_image [] seed count s n is first second = absurd (true≢false (sym is))
fill_of_image (b ∷ bs) seed count s n is first second =
    ap₂ (λ (x y : Option ℕ). option_and_then (λ s. option_map (Fill (b ∷ bs) s) y) x) first second

image_form : (verb image : List ℕ) (call : List ℕ → Call) (words : List (List ℕ)) → ((vs : Option (List (List ℕ))) → verb_of verb vs ≡ option_and_then (of_image call) vs)
    → (is_image image ≡ true) × IsOfImage verb image words → call_of words ≡ Some (call image)
image_form verb image call words of h =
    ap call_of h.1.words_are ∙ ap (verb_of verb) (values (image ∷ []) (plain_image image h.0, tt)) ∙ of (Some (image ∷ [])) ∙ of_one_image call image h.0

path_form : (verb image path : List ℕ) (call : List ℕ → List ℕ → Call) (words : List (List ℕ))
    → ((vs : Option (List (List ℕ))) → verb_of verb vs ≡ option_and_then (of_path call) vs) → (is_image image ≡ true) × IsOfPath verb image path words
    → call_of words ≡ Some (call image path)
path_form verb image path call words of h =
    ap call_of h.1.words_are ∙ ap (verb_of verb) (values (image ∷ path ∷ []) (plain_image image h.0, (h.1.plain, tt))) ∙ of (Some (image ∷ path ∷ []))
    ∙ of_one_path call image path h.0

format_form : (program image : List ℕ) (slots : ℕ) → is_image image ≡ true → slot_minimum ≤ slots → slots ≤ slot_limit
    → call_of (program ∷ codes "format" ∷ image ∷ decimal slots ∷ []) ≡ Some (Format image slots)
format_form program image slots is low high =
    let number = written_decimal slot_minimum slot_limit slots low high (omega arith) in
    ap (verb_of (codes "format")) (values (image ∷ decimal slots ∷ []) (plain_image image is, (plain_image (decimal slots) number.0, tt))) ∙ format_verb (Some (image ∷ decimal slots ∷ []))
    ∙ format_of_image image (decimal slots) slots is number.1

fill_form : (program image : List ℕ) (seed count : ℕ) → is_image image ≡ true → seed ≤ seed_limit → count ≤ fill_limit
    → call_of (program ∷ codes "fill" ∷ image ∷ decimal seed ∷ decimal count ∷ []) ≡ Some (Fill image seed count)
fill_form program image seed count is first second =
    let s = written_decimal 0 seed_limit seed (omega arith) first (omega arith) in
    let n = written_decimal 0 fill_limit count (omega arith) second (omega arith) in
    ap (verb_of (codes "fill")) (values (image ∷ decimal seed ∷ decimal count ∷ []) (plain_image image is, (plain_image (decimal seed) s.0, (plain_image (decimal count) n.0, tt)))) ∙ fill_verb (Some (image ∷ decimal seed ∷ decimal count ∷ []))
    ∙ fill_of_image image (decimal seed) (decimal count) seed count is s.1 n.1

pub form_is_call : (call : Call) (words : List (List ℕ)) → HasForm call words → call_of words ≡ Some call
form_is_call (Run image) words h = image_form (codes "run") image Run words run_verb h
form_is_call (Format image slots) words h = ap call_of h.1.words_are ∙ format_form h.1.program image slots h.0 h.1.at_least h.1.at_most
form_is_call (Fill image seed count) words h =
    ap call_of h.1.words_are ∙ fill_form h.1.program image seed count h.0 h.1.seed_at_most h.1.count_at_most
form_is_call (Check image) words h = image_form (codes "check") image Check words check_verb h
form_is_call (Export image path) words h = path_form (codes "export") image path Export words export_verb h
form_is_call (Import image path) words h = path_form (codes "import") image path Import words import_verb h
form_is_call (Serve image) words h = image_form (codes "serve") image Serve words serve_verb h
