-- What a parse's outcome says of the words.
use Rattle.std.proofs.Common.{◌≡◌, ◌∙◌, ◌⊎◌, inl, inr, Bool, true, false, List, [], ◌∷◌, refl, sym, ap, subst, Option, Some, None, String, IsUtf8, Result, Ok, map, ok_or, option_map, string_bytes, true≢false}
use Rattle.std.specs.Prelude.{unwrap_or}
use Rattle.std.specs.List.{AllByRecursion}
use Rattle.std.proofs.lemmas.Str.{IsUtf8-string_bytes}
use Rattle.clap.proofs.OnLiterals.{clap_on_literals}
use Rattle.clap.specs.Kinds.{IsAmong, Kinds}
use Rattle.clap.specs.Walk.{Row, Text}
use Rattle.clap.specs.Words.{fault_of, is_simple, is_simple_and_free, subcommand_of}
use Rattle.clap.specs.declared.error.kind.ErrorKind.{ErrorKind}
use Rattle.clap.specs.declared.error.kind.ErrorKind.TheVariants.{OutOfMemory}
use Rattle.bd_limits.specs.Limits.{slot_limit, slot_minimum}
use Rattle.bd_words.specs.Words.{Call, call_of, fill_limit, seed_limit}
use Rattle.bd_words.specs.Line.{HasRead, line}
use Rattle.bd_words.specs.Calls.{IsWithinLimits, asked}
use Rattle.bd_words.specs.declared.words.Call.{Call as Read}
use Rattle.bd_words.specs.declared.words.Call.TheVariants as read
use Rattle.bd_words.specs.declared.words.WordsFault.{WordsFault}
use Rattle.bd_words.specs.declared.words.WordsFault.TheVariants.{NoMemory, Refused}
use Rattle.bd_words.proofs.Commands.{LineReads, line_reads}
use Rattle.bd_words.proofs.Ranges.{number_bounds}
use Rattle.bd_words.proofs.Values.{none_some}

pub line_is_simple : is_simple line ≡ true
unfolding clap_on_literals
line_is_simple = refl

pub line_is_free : is_simple_and_free line ≡ true
unfolding clap_on_literals
line_is_free = refl

pub words_are_utf8 : {Z : Type 0} (words : List (String Z)) → AllByRecursion IsUtf8 (map string_bytes words)
words_are_utf8 [] = tt
words_are_utf8 (w ∷ ws) = (IsUtf8-string_bytes w, words_are_utf8 ws)

-- ---- words that `clap` takes

pub taken : (words : List Text) (found : Option (Text × List Row)) → AllByRecursion IsUtf8 words → fault_of line words ≡ []
    → found ≡ subcommand_of line words → (call : Call) × (call_of words ≡ Some call) × HasRead call found
taken words found utf8 passes same = go (call_of words) refl (line_reads words utf8)
  where
    go : (o : Option Call) → call_of words ≡ o → LineReads words o → (call : Call) × (call_of words ≡ Some call) × HasRead call found
    go None is refused = absurd (refused passes)
    go (Some call) is reads = (call, is, subst (HasRead call) (sym same) reads.1)

pub call_read : (o : Option Read) (r : Result Read WordsFault) (call : Call) → r ≡ ok_or o Refused → option_map asked o ≡ Some call
    → (got : Read) × (r ≡ Ok got) × (asked got ≡ call)
call_read None r call is given = absurd (none_some call given)
call_read (Some got) r call is given = (got, is, ap (λ c. unwrap_or c (asked got)) given)

pub within : (got : Read) (found : Option (Text × List Row)) → HasRead (asked got) found → IsWithinLimits got
within (read.Run image) found has = tt
within (read.Format image slots) found has = number_bounds slot_minimum slot_limit slots has.2.0 has.2.2
within (read.Fill image seed count) found has =
    ((number_bounds 0 seed_limit seed has.2.0 has.2.3).1, (number_bounds 0 fill_limit count has.2.1 has.2.4).1)
within (read.Check image) found has = tt
within (read.Export image path) found has = tt
within (read.Import image path) found has = tt
within (read.Serve image) found has = tt

-- ---- words that it refuses

is_refused : WordsFault → Bool
is_refused Refused = true
is_refused NoMemory = false

faults_differ : NoMemory ≡ Refused → ⊥
unfolding is_refused
faults_differ e = true≢false (sym (ap is_refused e))

-- an error of another kind than memory is a fault of the words
pub fails : (kind : ErrorKind) (kinds : Kinds) (fault : WordsFault) → (kind ≡ OutOfMemory) ⊎ IsAmong kind kinds
    → (kind ≡ OutOfMemory → fault ≡ NoMemory) → fault ≡ Refused → kinds ≡ [] → ⊥
fails kind kinds fault (inl memory) gives refused none = faults_differ (sym (gives memory) ∙ refused)
fails kind kinds fault (inr among) gives refused none = subst (IsAmong kind) none among

pub not_taken : (words : List Text) → AllByRecursion IsUtf8 words → (fault_of line words ≡ [] → ⊥) → call_of words ≡ None
not_taken words utf8 refused = go (call_of words) (line_reads words utf8)
  where
    go : (o : Option Call) → LineReads words o → o ≡ None
    go None h = refl
    go (Some call) h = absurd (refused h.0)
