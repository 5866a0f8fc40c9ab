-- What a parse found, by its rows.
use Rattle.std.proofs.Common.{◌≡◌, ◌∙◌, ℕ, ◌+◌, ◌*◌, ◌==◌, false, List, [], ◌∷◌, refl, sym, ap, subst, codes, Option, Some, None, Box, is_some, option_map, true≢false}
use Rattle.std.specs.Prelude.{unwrap_or}
use Rattle.std.specs.Box.{box_value}
use Rattle.std.proofs.lemmas.Bool.{eq-eqb}
use Rattle.clap.proofs.OnLiterals.{clap_on_literals}
use Rattle.clap.proofs.WalkLemmas.{first_value-rows}
use Rattle.clap.specs.Matches.{first_value, subcommand_name_of}
use Rattle.clap.specs.Walk.{Row, Text, first_of, one_of, rows_of}
use Rattle.clap.specs.Words.{subcommand_rows, subcommand_rows_of, without_minus}
use Rattle.clap.specs.declared.parser.matches.ArgMatches.{ArgMatches}
use Rattle.clap.specs.declared.parser.matches.ArgMatches.TheViews.{out-ArgMatches, out-SubCommand}
use Rattle.clap.specs.declared.parser.matches.Found.{Found}
use Rattle.clap.specs.declared.parser.matches.SubCommand.{SubCommand}
use Rattle.bd_words.specs.Words.{Call, Run, Format, Fill, Check, Export, Import, Serve}
use Rattle.bd_words.specs.Line.{HasRead, HasRows, image_row, number_row, path_row, verb_name}
use Rattle.bd_words.specs.Calls.{asked}
use Rattle.bd_words.specs.declared.words.Call.{Call as Read}

-- ---- the values of a call

pub none_some : {X : Type 0} (x : X) → None ≡ Some x → ⊥
none_some x e = true≢false (sym (ap is_some e))

first_image : (image : Text) (rest : List Row) → first_of (codes "image") (image_row image ∷ rest) ≡ Some image
unfolding clap_on_literals
first_image image rest = refl

pub image_found : (f : Found) (image : Text) (rest : List Row) → rows_of f ≡ image_row image ∷ rest → first_value f (codes "image") ≡ Some image
image_found f image rest rows = first_value-rows f (codes "image") ∙ ap (first_of (codes "image")) rows ∙ first_image image rest

first_path : (image path : Text) → first_of (codes "path") (image_row image ∷ path_row path ∷ []) ≡ Some path
unfolding clap_on_literals
first_path image path = refl

pub path_found : (f : Found) (image path : Text) → rows_of f ≡ image_row image ∷ path_row path ∷ [] → first_value f (codes "path") ≡ Some path
path_found f image path rows = first_value-rows f (codes "path") ∙ ap (first_of (codes "path")) rows ∙ first_path image path

one_slots : (image slots : Text) → one_of (codes "slots") (image_row image ∷ number_row (codes "slots") slots ∷ []) ≡ Some (without_minus slots)
unfolding clap_on_literals
one_slots image slots = refl

pub slots_found : (f : Found) (image slots : Text) → rows_of f ≡ image_row image ∷ number_row (codes "slots") slots ∷ []
    → one_of (codes "slots") (rows_of f) ≡ Some (without_minus slots)
slots_found f image slots rows = ap (one_of (codes "slots")) rows ∙ one_slots image slots

one_seed : (image seed count : Text)
    → one_of (codes "seed") (image_row image ∷ number_row (codes "seed") seed ∷ number_row (codes "count") count ∷ []) ≡ Some (without_minus seed)
unfolding clap_on_literals
one_seed image seed count = refl

pub seed_found : (f : Found) (image seed count : Text) → rows_of f ≡ image_row image ∷ number_row (codes "seed") seed ∷ number_row (codes "count") count ∷ []
    → one_of (codes "seed") (rows_of f) ≡ Some (without_minus seed)
seed_found f image seed count rows = ap (one_of (codes "seed")) rows ∙ one_seed image seed count

one_count : (image seed count : Text)
    → one_of (codes "count") (image_row image ∷ number_row (codes "seed") seed ∷ number_row (codes "count") count ∷ []) ≡ Some (without_minus count)
unfolding clap_on_literals
one_count image seed count = refl

pub count_found : (f : Found) (image seed count : Text) → rows_of f ≡ image_row image ∷ number_row (codes "seed") seed ∷ number_row (codes "count") count ∷ []
    → one_of (codes "count") (rows_of f) ≡ Some (without_minus count)
count_found f image seed count rows = ap (one_of (codes "count")) rows ∙ one_count image seed count

-- ---- the subcommand

module _ {Z : Type 0} where
  name_in : (o : Option (Box SubCommand Z)) → option_map (λ b. (out-SubCommand (box_value b)).name.now) o ≡ option_map (λ p. p.0) (subcommand_rows o)
  name_in None = refl
  name_in (Some b) = refl

-- the subcommand that was entered is the call's
pub read_in : (m : ArgMatches) (verb : Text) (rows : List Row) (call : Call) → Some verb ≡ subcommand_name_of m
    → Some rows ≡ option_map (λ p. p.1) (subcommand_rows_of m) → HasRead call (subcommand_rows_of m) → (verb ≡ verb_name call) × HasRows call rows
read_in m verb rows call name found read =
    let names : Some verb ≡ Some (verb_name call) = name ∙ name_in (out-ArgMatches m).subcommand ∙ ap (option_map (λ p. p.0)) read.1 in
    let finds : Some rows ≡ Some read.0 = found ∙ ap (option_map (λ p. p.1)) read.1 in (
      ap (λ o. unwrap_or o []) names,
      subst (HasRows call) (sym (ap (λ o. unwrap_or o []) finds)) read.2,
    )

-- the first two letters of a verb, which tell it from the others
abbrev mark : Text → ℕ
mark [] = 0
mark (a ∷ []) = 0
mark (a ∷ b ∷ rest) = 256 * a + b

-- a verb isn't two with other letters
apart : {X : Type 0} (a b verb : Text) → (mark a == mark b) ≡ false → verb ≡ a → verb ≡ b → X
apart a b verb other first second =
    absurd (true≢false (sym (eq-eqb (mark a) (mark b) (ap mark (sym first ∙ second))) ∙ other))

-- the subcommand that was entered is this verb's, and so is the call

pub run_read : (call : Call) (rows : List Row) (verb : Text) (o : Option Read) → verb ≡ codes "run" → (verb ≡ verb_name call) × HasRows call rows
    → ((image : Text) → HasRows (Run image) rows → option_map asked o ≡ Some (Run image)) → option_map asked o ≡ Some call
run_read (Run image) rows verb o is read given = given image read.1
run_read (Format image slots) rows verb o is read given = apart (codes "run") (codes "format") verb refl is read.0
run_read (Fill image seed count) rows verb o is read given = apart (codes "run") (codes "fill") verb refl is read.0
run_read (Check image) rows verb o is read given = apart (codes "run") (codes "check") verb refl is read.0
run_read (Export image path) rows verb o is read given = apart (codes "run") (codes "export") verb refl is read.0
run_read (Import image path) rows verb o is read given = apart (codes "run") (codes "import") verb refl is read.0
run_read (Serve image) rows verb o is read given = apart (codes "run") (codes "serve") verb refl is read.0

pub format_read : (call : Call) (rows : List Row) (verb : Text) (o : Option Read) → verb ≡ codes "format" → (verb ≡ verb_name call) × HasRows call rows
    → ((image : Text) (slots : ℕ) → HasRows (Format image slots) rows → option_map asked o ≡ Some (Format image slots)) → option_map asked o ≡ Some call
format_read (Run image) rows verb o is read given = apart (codes "format") (codes "run") verb refl is read.0
format_read (Format image slots) rows verb o is read given = given image slots read.1
format_read (Fill image seed count) rows verb o is read given = apart (codes "format") (codes "fill") verb refl is read.0
format_read (Check image) rows verb o is read given = apart (codes "format") (codes "check") verb refl is read.0
format_read (Export image path) rows verb o is read given = apart (codes "format") (codes "export") verb refl is read.0
format_read (Import image path) rows verb o is read given = apart (codes "format") (codes "import") verb refl is read.0
format_read (Serve image) rows verb o is read given = apart (codes "format") (codes "serve") verb refl is read.0

pub fill_read : (call : Call) (rows : List Row) (verb : Text) (o : Option Read) → verb ≡ codes "fill" → (verb ≡ verb_name call) × HasRows call rows
    → ((image : Text) (seed count : ℕ) → HasRows (Fill image seed count) rows → option_map asked o ≡ Some (Fill image seed count)) → option_map asked o ≡ Some call
fill_read (Run image) rows verb o is read given = apart (codes "fill") (codes "run") verb refl is read.0
fill_read (Format image slots) rows verb o is read given = apart (codes "fill") (codes "format") verb refl is read.0
fill_read (Fill image seed count) rows verb o is read given = given image seed count read.1
fill_read (Check image) rows verb o is read given = apart (codes "fill") (codes "check") verb refl is read.0
fill_read (Export image path) rows verb o is read given = apart (codes "fill") (codes "export") verb refl is read.0
fill_read (Import image path) rows verb o is read given = apart (codes "fill") (codes "import") verb refl is read.0
fill_read (Serve image) rows verb o is read given = apart (codes "fill") (codes "serve") verb refl is read.0

pub check_read : (call : Call) (rows : List Row) (verb : Text) (o : Option Read) → verb ≡ codes "check" → (verb ≡ verb_name call) × HasRows call rows
    → ((image : Text) → HasRows (Check image) rows → option_map asked o ≡ Some (Check image)) → option_map asked o ≡ Some call
check_read (Run image) rows verb o is read given = apart (codes "check") (codes "run") verb refl is read.0
check_read (Format image slots) rows verb o is read given = apart (codes "check") (codes "format") verb refl is read.0
check_read (Fill image seed count) rows verb o is read given = apart (codes "check") (codes "fill") verb refl is read.0
check_read (Check image) rows verb o is read given = given image read.1
check_read (Export image path) rows verb o is read given = apart (codes "check") (codes "export") verb refl is read.0
check_read (Import image path) rows verb o is read given = apart (codes "check") (codes "import") verb refl is read.0
check_read (Serve image) rows verb o is read given = apart (codes "check") (codes "serve") verb refl is read.0

pub export_read : (call : Call) (rows : List Row) (verb : Text) (o : Option Read) → verb ≡ codes "export" → (verb ≡ verb_name call) × HasRows call rows
    → ((image path : Text) → HasRows (Export image path) rows → option_map asked o ≡ Some (Export image path)) → option_map asked o ≡ Some call
export_read (Run image) rows verb o is read given = apart (codes "export") (codes "run") verb refl is read.0
export_read (Format image slots) rows verb o is read given = apart (codes "export") (codes "format") verb refl is read.0
export_read (Fill image seed count) rows verb o is read given = apart (codes "export") (codes "fill") verb refl is read.0
export_read (Check image) rows verb o is read given = apart (codes "export") (codes "check") verb refl is read.0
export_read (Export image path) rows verb o is read given = given image path read.1
export_read (Import image path) rows verb o is read given = apart (codes "export") (codes "import") verb refl is read.0
export_read (Serve image) rows verb o is read given = apart (codes "export") (codes "serve") verb refl is read.0

pub import_read : (call : Call) (rows : List Row) (verb : Text) (o : Option Read) → verb ≡ codes "import" → (verb ≡ verb_name call) × HasRows call rows
    → ((image path : Text) → HasRows (Import image path) rows → option_map asked o ≡ Some (Import image path)) → option_map asked o ≡ Some call
import_read (Run image) rows verb o is read given = apart (codes "import") (codes "run") verb refl is read.0
import_read (Format image slots) rows verb o is read given = apart (codes "import") (codes "format") verb refl is read.0
import_read (Fill image seed count) rows verb o is read given = apart (codes "import") (codes "fill") verb refl is read.0
import_read (Check image) rows verb o is read given = apart (codes "import") (codes "check") verb refl is read.0
import_read (Export image path) rows verb o is read given = apart (codes "import") (codes "export") verb refl is read.0
import_read (Import image path) rows verb o is read given = given image path read.1
import_read (Serve image) rows verb o is read given = apart (codes "import") (codes "serve") verb refl is read.0

pub serve_read : (call : Call) (rows : List Row) (verb : Text) (o : Option Read) → verb ≡ codes "serve" → (verb ≡ verb_name call) × HasRows call rows
    → ((image : Text) → HasRows (Serve image) rows → option_map asked o ≡ Some (Serve image)) → option_map asked o ≡ Some call
serve_read (Run image) rows verb o is read given = apart (codes "serve") (codes "run") verb refl is read.0
serve_read (Format image slots) rows verb o is read given = apart (codes "serve") (codes "format") verb refl is read.0
serve_read (Fill image seed count) rows verb o is read given = apart (codes "serve") (codes "fill") verb refl is read.0
serve_read (Check image) rows verb o is read given = apart (codes "serve") (codes "check") verb refl is read.0
serve_read (Export image path) rows verb o is read given = apart (codes "serve") (codes "export") verb refl is read.0
serve_read (Import image path) rows verb o is read given = apart (codes "serve") (codes "import") verb refl is read.0
serve_read (Serve image) rows verb o is read given = given image read.1

-- a verb that is none of them is no call's
pub no_read : {X : Type 0} (call : Call) (verb : Text) → verb ≡ verb_name call
    → (verb ≡ codes "run" → ⊥)
    → (verb ≡ codes "format" → ⊥)
    → (verb ≡ codes "fill" → ⊥)
    → (verb ≡ codes "check" → ⊥)
    → (verb ≡ codes "export" → ⊥)
    → (verb ≡ codes "import" → ⊥)
    → (verb ≡ codes "serve" → ⊥) → X
no_read (Run image) verb is r f l c e i s = absurd (r is)
no_read (Format image slots) verb is r f l c e i s = absurd (f is)
no_read (Fill image seed count) verb is r f l c e i s = absurd (l is)
no_read (Check image) verb is r f l c e i s = absurd (c is)
no_read (Export image path) verb is r f l c e i s = absurd (e is)
no_read (Import image path) verb is r f l c e i s = absurd (i is)
no_read (Serve image) verb is r f l c e i s = absurd (s is)
