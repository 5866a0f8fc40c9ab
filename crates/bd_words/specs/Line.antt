-- The command line as `clap` has it.
use Rattle.std.specs.Prelude.{◌≡◌, ℕ, List, [], ◌∷◌, codes, pos, true, Option, None, Some}
use Rattle.clap.specs.Words.{App, Row, Rule, Text, fault_of, new_app, new_rule, with_rule, with_subcommand}
use Rattle.clap.specs.declared.builder.value_parser.ValueParser.TheVariants.{NonEmptyString, Signed}
use Rattle.bd_limits.specs.Limits.{slot_minimum, slot_limit}
use Rattle.clap.specs.declared.builder.value_parser.Reading.{Reading}
use Rattle.clap.specs.declared.builder.value_parser.Reading.TheVariants.{AsWritten, WithoutMinus}
use Rattle.clap.specs.declared.parser.matches.ValueSource.TheVariants.{CommandLine}
use Rattle.bd_words.specs.Words.{Call, Run, Format, Fill, Check, Export, Import, Serve, count_in, seed_in, slots_in, seed_limit, fill_limit}

-- a name that isn't empty
abbrev pub image_rule : Rule
image_rule = record (new_rule (codes "image")) { required = true; parser = Some NonEmptyString }

-- a word, whatever it is
abbrev pub path_rule : Rule
path_rule = record (new_rule (codes "path")) { required = true }

-- a whole number from `least` to `most`
abbrev pub number_rule : Text → ℕ → ℕ → Rule
number_rule id least most =
    record (new_rule id) { required = true; parser = Some (Signed (pos least) (pos most)) }

-- a verb that IMAGE follows
abbrev pub image_line : Text → App
image_line verb = with_rule (new_app verb) image_rule

-- a verb that IMAGE and PATH follow
abbrev pub path_line : Text → App
path_line verb = with_rule (with_rule (new_app verb) image_rule) path_rule

abbrev pub format_line : App
format_line = with_rule (with_rule (new_app (codes "format")) image_rule)
    (number_rule (codes "slots") slot_minimum slot_limit)

abbrev pub fill_line : App
fill_line = with_rule (with_rule (with_rule (new_app (codes "fill")) image_rule)
    (number_rule (codes "seed") 0 seed_limit)) (number_rule (codes "count") 0 fill_limit)

abbrev pub with_verb : App → App → App
with_verb program verb = with_subcommand program verb.top

-- the program, which wants one of its subcommands
abbrev pub program_line : App
program_line = record (new_app (codes "betr")) {
  top = record (new_app (codes "betr")).top { subcommand_required = true };
}

-- the program with the first three of them
abbrev pub first_line : App
first_line = with_verb (with_verb (with_verb program_line (image_line (codes "run"))) format_line)
    fill_line

-- the program with all of them
abbrev pub line : App
line = with_verb (with_verb (with_verb (with_verb first_line (image_line (codes "check")))
    (path_line (codes "export"))) (path_line (codes "import"))) (image_line (codes "serve"))

-- `clap` has no fault to find in these words
abbrev pub AreTaken : List Text → Type 0
AreTaken words = fault_of line words ≡ []

-- ---- what a parse finds

-- a word that was given for an argument
abbrev pub row : Text → Reading → Text → Row
row id how value = record {
  id = id;
  values = value ∷ [];
  count = None;
  source = Some CommandLine;
  reading = how;
}

abbrev pub image_row : Text → Row
image_row = row (codes "image") AsWritten

abbrev pub path_row : Text → Row
path_row = row (codes "path") AsWritten

abbrev pub number_row : Text → Text → Row
number_row id = row id WithoutMinus

-- the rows of a call's values
abbrev pub HasRows : Call → List Row → Type 0
HasRows (Run image) rows = rows ≡ image_row image ∷ []
HasRows (Format image n) rows = (slots : Text)
    × (rows ≡ image_row image ∷ number_row (codes "slots") slots ∷ []) × (slots_in slots ≡ Some n)
HasRows (Fill image s n) rows = (seed : Text) × (count : Text) × (rows
    ≡ image_row image ∷ number_row (codes "seed") seed ∷ number_row (codes "count") count ∷ [])
    × (seed_in seed ≡ Some s) × (count_in count ≡ Some n)
HasRows (Check image) rows = rows ≡ image_row image ∷ []
HasRows (Export image path) rows = rows ≡ image_row image ∷ path_row path ∷ []
HasRows (Import image path) rows = rows ≡ image_row image ∷ path_row path ∷ []
HasRows (Serve image) rows = rows ≡ image_row image ∷ []

-- the verb of a call
abbrev pub verb_name : Call → Text
verb_name (Run image) = codes "run"
verb_name (Format image slots) = codes "format"
verb_name (Fill image seed count) = codes "fill"
verb_name (Check image) = codes "check"
verb_name (Export image path) = codes "export"
verb_name (Import image path) = codes "import"
verb_name (Serve image) = codes "serve"

-- the subcommand with its rows makes the call
abbrev pub HasRead : Call → Option (Text × List Row) → Type 0
HasRead call found = (rows : List Row) × (found ≡ Some (verb_name call, rows)) × HasRows call rows
