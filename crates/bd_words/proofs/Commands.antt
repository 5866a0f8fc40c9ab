-- What `clap` makes of all the words.
use Rattle.std.proofs.Common.{◌≡◌, ◌∙◌, ℕ, Bool, true, false, ◌↔◌, ◌||◌, ◌==◌, List, [], ◌∷◌, refl, sym, ap, ap₂, subst, codes, Option, Some, None, true≢false}
use Rattle.std.specs.Option.{option_and_then, option_map}
use Rattle.std.specs.Prelude.{is_some}
use Rattle.std.specs.List.{AllByRecursion, fold}
use Rattle.std.specs.Str.{IsUtf8, bytes_eq}
use Rattle.clap.proofs.OnLiterals.{clap_on_literals}
use Rattle.clap.proofs.WalkLemmas.{walk_stopped}
use Rattle.clap.proofs.FaultLemmas.{stopped_fault}
use Rattle.clap.specs.Kinds.{Kinds, or_else}
use Rattle.clap.specs.Walk.{Held, Step, Text, Walk, after_step, arg_by_long, arg_by_short, idle, nothing_held, rows_after, subcommand_met, subcommand_or_other, value, walk_from, walked, word_met}
use Rattle.clap.specs.Simple.{Shape, built, entered, names_of, subcommand_of}
use Rattle.clap.specs.Faults.{defaults_fault, entered_fault, fault_of, level_fault, other_fault, step_fault, turn_fault, walk_fault, word_fault}
use Rattle.bd_words.specs.Words.{Call, Run, Format, Fill, Check, Export, Import, Serve, call_of, is_dashes, is_flag, of_image, of_path, format_of, fill_of, slots_in, seed_in, count_in, values_in, verb_of}
use Rattle.bd_words.specs.Line.{HasRead, line, verb_name}
use Rattle.bd_words.proofs.Reading.{IsHelp, flag_refused, left_refused, not_long, not_short, refused, right_refused}
use Rattle.bd_words.proofs.Verbs.{Reads, closing, helps, image_shape, path_shape, format_shape, fill_shape, image_reads, path_reads, format_reads, fill_reads}

-- the words are refused, or make this call
abbrev pub LineReads : List Text → Option Call → Type 0
LineReads words None = fault_of line words ≡ [] → ⊥
LineReads words (Some call) = (fault_of line words ≡ []) × HasRead call (subcommand_of line words)

abbrev top : Shape
top = (built line).top

abbrev names : List (Text × List Text)
names = names_of (built line)

-- what a walk comes to, by its faults and its end
abbrev whole : Kinds → Walk → Kinds
whole f w = closing top (is_some (entered (built line) w.stopped)) (entered_fault (built line) w.stopped) f w.held

abbrev stopped_at : Text → List Text → Walk
stopped_at name words = record (walk_from nothing_held) { stopped = Some (name, words) }

or_else_nil : (ks : Kinds) → or_else ks [] ≡ ks
or_else_nil [] = refl
or_else_nil (k ∷ ks) = refl

-- the words after a verb are those of its subcommand
enters : (name verb : Text) (ws : List Text) → walked top.rules names (walk_from nothing_held) verb ≡ stopped_at name [] → turn_fault top names (walk_from nothing_held) verb ≡ []
    → (walk_fault top names (walk_from nothing_held) (verb ∷ ws) ≡ []) × (fold (walked top.rules names) (walk_from nothing_held) (verb ∷ ws) ≡ stopped_at name ws)
unfolding walk_fault
enters name verb ws goes passes = (
  ap₂ (λ k w. or_else k (walk_fault top names w ws)) passes goes ∙ stopped_fault top names (walk_from nothing_held) (name, []) ws,
  ap (λ w. fold (walked top.rules names) w ws) goes ∙ sym (walk_stopped top.rules names (walk_from nothing_held) name [] ws),
)

-- what the first word is, by the subcommand that it names
abbrev step_to : Text → Option Text → Held × Step
step_to verb o = subcommand_or_other top.rules o idle 1 verb nothing_held

walks : (verb : Text) (o : Option Text) → subcommand_met names idle verb ≡ o
    → walked top.rules names (walk_from nothing_held) verb ≡ after_step top.rules verb (walk_from nothing_held) (step_to verb o).0 (step_to verb o).1
unfolding walked
walks verb o is = ap (λ (o : Option Text). after_step top.rules verb (walk_from nothing_held) (step_to verb o).0 (step_to verb o).1) is

turns : (verb : Text) (o : Option Text) → subcommand_met names idle verb ≡ o
    → turn_fault top names (walk_from nothing_held) verb ≡ or_else (other_fault top o verb nothing_held) (step_fault top 1 (step_to verb o).0 (step_to verb o).1)
turns verb o is = ap (λ (o : Option Text). or_else (other_fault top o verb nothing_held) (step_fault top 1 (step_to verb o).0 (step_to verb o).1)) is

-- at the name of a subcommand the walk stops
stops_at : (name verb : Text) → subcommand_met names idle verb ≡ Some name → bytes_eq name (codes "help") ≡ false
    → (walked top.rules names (walk_from nothing_held) verb ≡ stopped_at name []) × (turn_fault top names (walk_from nothing_held) verb ≡ [])
stops_at name verb is other = (walks verb (Some name) is, turns verb (Some name) is ∙ rw other refl)

-- ---- a verb that is met

abbrev pub name_or : Text → Option Call → Text
name_or name None = name
name_or name (Some call) = verb_name call

met : (name program verb : Text) (s : Shape) (ws : List Text)
    → (walked top.rules names (walk_from nothing_held) verb ≡ stopped_at name []) × (turn_fault top names (walk_from nothing_held) verb ≡ [])
    → whole [] (stopped_at name ws) ≡ or_else (level_fault s [] nothing_held ws false []) []
    → entered (built line) (Some (name, ws)) ≡ Some (name, rows_after s.rules [] ws)
    → (o : Option Call) → name_or name o ≡ name → Reads s ws o → LineReads (program ∷ verb ∷ ws) o
met name program verb s ws goes is at None named h =
    let e = enters name verb ws goes.0 goes.1 in
    λ f. h (sym (or_else_nil (level_fault s [] nothing_held ws false [])) ∙ sym is ∙ sym (ap₂ whole e.0 e.1) ∙ f)
met name program verb s ws goes is at (Some call) named h =
    let e = enters name verb ws goes.0 goes.1 in (
      ap₂ whole e.0 e.1 ∙ is ∙ or_else_nil (level_fault s [] nothing_held ws false []) ∙ h.0,
      (rows_after s.rules [] ws, ap (λ w. entered (built line) w.stopped) e.1 ∙ at ∙ ap (λ (n : Text). Some (n, rows_after s.rules [] ws)) (sym named), h.1),
    )

of_images : (name : Text) (call : Text → Call) → ((image : Text) → verb_name (call image) ≡ name) → (o : Option (List Text))
    → name_or name (option_and_then (of_image call) o) ≡ name
of_images name call named None = refl
of_images name call named (Some []) = refl
of_images name call named (Some ([] ∷ [])) = refl
of_images name call named (Some ((b ∷ bs) ∷ [])) = named (b ∷ bs)
of_images name call named (Some (a ∷ b ∷ vs)) = refl

of_paths : (name : Text) (call : Text → Text → Call) → ((image path : Text) → verb_name (call image path) ≡ name) → (o : Option (List Text))
    → name_or name (option_and_then (of_path call) o) ≡ name
of_paths name call named None = refl
of_paths name call named (Some []) = refl
of_paths name call named (Some (a ∷ [])) = refl
of_paths name call named (Some ([] ∷ path ∷ [])) = refl
of_paths name call named (Some ((b ∷ bs) ∷ path ∷ [])) = named (b ∷ bs) path
of_paths name call named (Some (a ∷ b ∷ c ∷ vs)) = refl

formats : (o : Option (List Text)) → name_or (codes "format") (option_and_then format_of o) ≡ codes "format"
formats None = refl
formats (Some []) = refl
formats (Some (a ∷ [])) = refl
formats (Some ([] ∷ slots ∷ [])) = refl
formats (Some ((b ∷ bs) ∷ slots ∷ [])) = go (slots_in slots)
  where
    go : (o : Option ℕ) → name_or (codes "format") (option_map (Format (b ∷ bs)) o) ≡ codes "format"
    go None = refl
    go (Some n) = refl
formats (Some (a ∷ b ∷ c ∷ vs)) = refl

fills : (o : Option (List Text)) → name_or (codes "fill") (option_and_then fill_of o) ≡ codes "fill"
fills None = refl
fills (Some []) = refl
fills (Some (a ∷ [])) = refl
fills (Some (a ∷ b ∷ [])) = refl
fills (Some ([] ∷ seed ∷ count ∷ [])) = refl
fills (Some ((b ∷ bs) ∷ seed ∷ count ∷ [])) = go (seed_in seed) (count_in count)
  where
    go : (s n : Option ℕ) → name_or (codes "fill") (option_and_then (λ s. option_map (Fill (b ∷ bs) s) n) s) ≡ codes "fill"
    go None n = refl
    go (Some s) None = refl
    go (Some s) (Some n) = refl
fills (Some (a ∷ b ∷ c ∷ d ∷ vs)) = refl

run_whole : (ws : List Text) → whole [] (stopped_at (codes "run") ws) ≡ or_else (level_fault (image_shape (codes "run")) [] nothing_held ws false []) []
unfolding defaults_fault
run_whole ws = refl

format_whole : (ws : List Text) → whole [] (stopped_at (codes "format") ws) ≡ or_else (level_fault format_shape [] nothing_held ws false []) []
unfolding defaults_fault
format_whole ws = refl

fill_whole : (ws : List Text) → whole [] (stopped_at (codes "fill") ws) ≡ or_else (level_fault fill_shape [] nothing_held ws false []) []
unfolding defaults_fault
fill_whole ws = refl

check_whole : (ws : List Text) → whole [] (stopped_at (codes "check") ws) ≡ or_else (level_fault (image_shape (codes "check")) [] nothing_held ws false []) []
unfolding defaults_fault
check_whole ws = refl

export_whole : (ws : List Text) → whole [] (stopped_at (codes "export") ws) ≡ or_else (level_fault (path_shape (codes "export")) [] nothing_held ws false []) []
unfolding defaults_fault
export_whole ws = refl

import_whole : (ws : List Text) → whole [] (stopped_at (codes "import") ws) ≡ or_else (level_fault (path_shape (codes "import")) [] nothing_held ws false []) []
unfolding defaults_fault
import_whole ws = refl

serve_whole : (ws : List Text) → whole [] (stopped_at (codes "serve") ws) ≡ or_else (level_fault (image_shape (codes "serve")) [] nothing_held ws false []) []
unfolding defaults_fault
serve_whole ws = refl

-- ---- no verb

top_longs : (name : Text) → IsHelp (arg_by_long top.rules name)
top_longs name = helps (bytes_eq (codes "help") name || false)

top_shorts : (x : ℕ) → IsHelp (arg_by_short top.rules x)
top_shorts x = helps ((104 == x) || false)

-- a turn that fails is a fault of the words
turn_fails : (program verb : Text) (ws : List Text) → (turn_fault top names (walk_from nothing_held) verb ≡ [] → ⊥) → fault_of line (program ∷ verb ∷ ws) ≡ [] → ⊥
unfolding walk_fault
turn_fails program verb ws h = left_refused (walk_fault top names (walk_from nothing_held) (verb ∷ ws)) _ (left_refused (turn_fault top names (walk_from nothing_held) verb) _ h)

abbrev trailing : Walk
trailing = record (walk_from nothing_held) { is_trailing = true }

after_dashes : (ws : List Text) → whole (or_else [] (walk_fault top names trailing ws)) (fold (walked top.rules names) trailing ws) ≡ [] → ⊥
unfolding clap_on_literals
after_dashes [] = refused _ refl
after_dashes (x ∷ xs) = refused _ refl

-- the verb is none of a call
record IsNoVerb (verb : Text) : Type 0 where
  pub run : bytes_eq (codes "run") verb ≡ false
  pub format : bytes_eq (codes "format") verb ≡ false
  pub fill : bytes_eq (codes "fill") verb ≡ false
  pub check : bytes_eq (codes "check") verb ≡ false
  pub exports : bytes_eq (codes "export") verb ≡ false
  pub imports : bytes_eq (codes "import") verb ≡ false
  pub serve : bytes_eq (codes "serve") verb ≡ false

module _ (program verb : Text) (ws : List Text) (n : IsNoVerb verb) where
  names_help : bytes_eq (codes "help") verb ≡ true → subcommand_met names idle verb ≡ Some (codes "help")
  names_help h = rw (n.run, n.format, n.fill, n.check, n.exports, n.imports, n.serve, h) refl

  asks_help : bytes_eq (codes "help") verb ≡ true → turn_fault top names (walk_from nothing_held) verb ≡ [] → ⊥
  asks_help h e = refused _ refl (sym (turns verb (Some (codes "help")) (names_help h)) ∙ e)

  no_verb : bytes_eq (codes "help") verb ≡ false → subcommand_met names idle verb ≡ None
  no_verb h = rw (n.run, n.format, n.fill, n.check, n.exports, n.imports, n.serve, h) refl

  dashes_first : bytes_eq (codes "help") verb ≡ false → is_dashes verb ≡ true
      → (walked top.rules names (walk_from nothing_held) verb ≡ trailing) × (turn_fault top names (walk_from nothing_held) verb ≡ [])
  dashes_first h d = (walks verb None (no_verb h) ∙ rw d refl, turns verb None (no_verb h) ∙ rw d refl)

  flag_first : bytes_eq (codes "help") verb ≡ false → IsUtf8 verb → is_flag verb ≡ true → is_dashes verb ≡ false
      → word_fault top names false idle verb nothing_held ≡ [] → ⊥
  flag_first h utf8 flag d e =
      flag_refused top top_longs top_shorts verb nothing_held utf8 flag d refl
      (rw d at (subst (λ o. other_fault top o verb nothing_held ≡ []) (no_verb h) e))

  value_first : bytes_eq (codes "help") verb ≡ false → is_flag verb ≡ false → is_dashes verb ≡ false → turn_fault top names (walk_from nothing_held) verb ≡ [] → ⊥
  value_first h flag d = right_refused (word_fault top names false idle verb nothing_held) _ (strays (word_met top.rules names false idle 1 verb nothing_held) is_value)
    where
      is_value : word_met top.rules names false idle 1 verb nothing_held ≡ (nothing_held, value)
      is_value = ap (step_to verb) (no_verb h) ∙ rw (d, not_long verb flag, not_short verb flag) refl

      strays : (q : Held × Step) → q ≡ (nothing_held, value) → step_fault top 1 q.0 q.1 ≡ [] → ⊥
      strays q is e = refused _ refl (subst (λ (q : Held × Step). step_fault top 1 q.0 q.1 ≡ []) is e)

  no_verb_reads : AllByRecursion IsUtf8 (program ∷ verb ∷ ws) → fault_of line (program ∷ verb ∷ ws) ≡ [] → ⊥
  unfolding walk_fault
  no_verb_reads utf8 = go (bytes_eq (codes "help") verb) (is_dashes verb) (is_flag verb) refl refl refl
    where
      go : (h d g : Bool) → bytes_eq (codes "help") verb ≡ h → is_dashes verb ≡ d → is_flag verb ≡ g → fault_of line (program ∷ verb ∷ ws) ≡ [] → ⊥
      go true d g is_h is_d is_g = turn_fails program verb ws (asks_help is_h)
      go false true g is_h is_d is_g = λ e.
          let p = dashes_first is_h is_d in
          after_dashes ws (sym (ap₂ (λ k w. whole (or_else k (walk_fault top names w ws)) (fold (walked top.rules names) w ws)) p.1 p.0) ∙ e)
      go false false true is_h is_d is_g = turn_fails program verb ws (left_refused (word_fault top names false idle verb nothing_held) _ (flag_first is_h utf8.1.0 is_g is_d))
      go false false false is_h is_d is_g = turn_fails program verb ws (value_first is_h is_g is_d)

-- ---- all the words

-- the words after a verb that is met are those of its call, or refused
reads_verb : (name program verb : Text) (s : Shape) (of : List Text → Option Call) (ws : List Text) → subcommand_met names idle verb ≡ Some name
    → bytes_eq name (codes "help") ≡ false → whole [] (stopped_at name ws) ≡ or_else (level_fault s [] nothing_held ws false []) []
    → entered (built line) (Some (name, ws)) ≡ Some (name, rows_after s.rules [] ws) → name_or name (option_and_then of (values_in ws)) ≡ name
    → Reads s ws (option_and_then of (values_in ws)) → verb_of verb (values_in ws) ≡ option_and_then of (values_in ws)
    → LineReads (program ∷ verb ∷ ws) (verb_of verb (values_in ws))
reads_verb name program verb s of ws is other same at named reads call =
    subst (LineReads (program ∷ verb ∷ ws)) (sym call) (met name program verb s ws (stops_at name verb is other) same at _ named reads)

-- `clap` refuses just the words that make no call, and gives the call of others
pub line_reads : (words : List Text) → AllByRecursion IsUtf8 words → LineReads words (call_of words)
unfolding clap_on_literals
line_reads [] utf8 = refused _ refl
line_reads (program ∷ []) utf8 = refused _ refl
line_reads (program ∷ verb ∷ ws) utf8 =
    go (bytes_eq (codes "run") verb) (bytes_eq (codes "format") verb) (bytes_eq (codes "fill") verb) (bytes_eq (codes "check") verb) (bytes_eq (codes "export") verb) (bytes_eq (codes "import") verb) (bytes_eq (codes "serve") verb) refl refl refl refl refl refl refl
  where
    go : (r f l c x m s : Bool) → bytes_eq (codes "run") verb ≡ r → bytes_eq (codes "format") verb ≡ f → bytes_eq (codes "fill") verb ≡ l → bytes_eq (codes "check") verb ≡ c → bytes_eq (codes "export") verb ≡ x → bytes_eq (codes "import") verb ≡ m → bytes_eq (codes "serve") verb ≡ s
        → LineReads (program ∷ verb ∷ ws) (verb_of verb (values_in ws))
    go true f l c x m s is_r is_f is_l is_c is_x is_m is_s =
        reads_verb (codes "run") program verb (image_shape (codes "run")) (of_image Run) ws (rw is_r refl) refl (run_whole ws) refl (of_images (codes "run") Run (λ image. refl) (values_in ws))
        (image_reads (codes "run") Run (λ image. refl) ws utf8.1.1) (rw is_r refl)
    go false true l c x m s is_r is_f is_l is_c is_x is_m is_s =
        reads_verb (codes "format") program verb format_shape format_of ws (rw (is_r, is_f) refl) refl (format_whole ws) refl (formats (values_in ws))
        (format_reads ws utf8.1.1) (rw (is_r, is_f) refl)
    go false false true c x m s is_r is_f is_l is_c is_x is_m is_s =
        reads_verb (codes "fill") program verb fill_shape fill_of ws (rw (is_r, is_f, is_l) refl) refl (fill_whole ws) refl (fills (values_in ws))
        (fill_reads ws utf8.1.1) (rw (is_r, is_f, is_l) refl)
    go false false false true x m s is_r is_f is_l is_c is_x is_m is_s =
        reads_verb (codes "check") program verb (image_shape (codes "check")) (of_image Check) ws (rw (is_r, is_f, is_l, is_c) refl) refl (check_whole ws) refl (of_images (codes "check") Check (λ image. refl) (values_in ws))
        (image_reads (codes "check") Check (λ image. refl) ws utf8.1.1) (rw (is_r, is_f, is_l, is_c) refl)
    go false false false false true m s is_r is_f is_l is_c is_x is_m is_s =
        reads_verb (codes "export") program verb (path_shape (codes "export")) (of_path Export) ws (rw (is_r, is_f, is_l, is_c, is_x) refl) refl (export_whole ws) refl (of_paths (codes "export") Export (λ image path. refl) (values_in ws))
        (path_reads (codes "export") Export (λ image path. refl) ws utf8.1.1) (rw (is_r, is_f, is_l, is_c, is_x) refl)
    go false false false false false true s is_r is_f is_l is_c is_x is_m is_s =
        reads_verb (codes "import") program verb (path_shape (codes "import")) (of_path Import) ws (rw (is_r, is_f, is_l, is_c, is_x, is_m) refl) refl (import_whole ws) refl (of_paths (codes "import") Import (λ image path. refl) (values_in ws))
        (path_reads (codes "import") Import (λ image path. refl) ws utf8.1.1) (rw (is_r, is_f, is_l, is_c, is_x, is_m) refl)
    go false false false false false false true is_r is_f is_l is_c is_x is_m is_s =
        reads_verb (codes "serve") program verb (image_shape (codes "serve")) (of_image Serve) ws (rw (is_r, is_f, is_l, is_c, is_x, is_m, is_s) refl) refl (serve_whole ws) refl (of_images (codes "serve") Serve (λ image. refl) (values_in ws))
        (image_reads (codes "serve") Serve (λ image. refl) ws utf8.1.1) (rw (is_r, is_f, is_l, is_c, is_x, is_m, is_s) refl)
    go false false false false false false false is_r is_f is_l is_c is_x is_m is_s =
        let none : verb_of verb (values_in ws) ≡ None = rw (is_r, is_f, is_l, is_c, is_x, is_m, is_s) refl in
        subst (LineReads (program ∷ verb ∷ ws)) (sym none) (no_verb_reads program verb ws (record {
          run = is_r;
          format = is_f;
          fill = is_l;
          check = is_c;
          exports = is_x;
          imports = is_m;
          serve = is_s;
        }) utf8)

pub just_calls : (words : List Text) → AllByRecursion IsUtf8 words → (fault_of line words ≡ []) ↔ (is_some (call_of words) ≡ true)
just_calls words utf8 = go (call_of words) (line_reads words utf8)
  where
    go : (o : Option Call) → LineReads words o → (fault_of line words ≡ []) ↔ (is_some o ≡ true)
    go None refused = (λ passes. absurd (refused passes), λ some. absurd (true≢false (sym some)))
    go (Some call) read = (λ passes. refl, λ some. read.0)
