-- Records that are read as commands, one by one.
use Rattle.std.proofs.Common.{◌≡◌, ℕ, ◌+◌, ◌<◌, ◌≤◌, false, List, [], ◌∷◌, ◌++◌, length, drop, get_or, Some, refl, arith, sym, ap, subst, ◌∙◌, append-nil, append_assoc}
use Rattle.std.specs.Prelude.{All}
use Rattle.std.proofs.lemmas.List.{map-append, at_drop_more, at_drop_all}
use Rattle.std.proofs.lemmas.List.Elements.{All-same, All-push}
use Rattle.bd_wire.specs.Encoding.{BeginsNone, IsPrefixFree}
use Rattle.bd_command.specs.Log.{IsLogged, log_record}
use Rattle.bd_command.specs.declared.Command.{Command}
use Rattle.bd_device.specs.declared.fault.ImageFault.{ImageFault}
use Rattle.bd_device.specs.declared.fault.ImageFault.TheVariants.{DeviceFault, Damaged, NoMemory}
use Rattle.bd_log.specs.declared.batch.Batch.{Batch}
use Rattle.bd_image.specs.Versions.{sets_mode}
use Rattle.bd_image.specs.Damage.{PlacedRecord, IsNoCommand, placed_records}
use Rattle.bd_checkpoint.specs.declared.commands.PlacedCommand.{PlacedCommand}
use Rattle.bd_checkpoint.specs.Commands.{IsPlacedIn, placed_record, records_for, placed_in, AreCommandsOf, StopsAt, IsCommandFault, IsRecordOf}

-- ---- one record

-- no record stands at the front
pub no_record : (version : ℕ) (bytes : List ℕ) → BeginsNone IsLogged log_record bytes → IsNoCommand version bytes
no_record version bytes none = λ c logged same. none c [] logged.0 (same ∙ sym (append-nil (log_record c)))

-- after the record at the front something is left
pub more_left : IsPrefixFree IsLogged log_record → (version : ℕ) (bytes left : List ℕ) (c : Command) → IsLogged c → bytes ≡ log_record c ++ left → ¬ (left ≡ []) → IsNoCommand version bytes
more_left free version bytes left c is front more = λ o logged same.
    more (sym (free o c [] left logged.0 is (append-nil (log_record o) ∙ sym same ∙ front)).1)

-- the record at the front is of a command that isn't of this version
pub of_other_version : IsPrefixFree IsLogged log_record → (version : ℕ) (bytes left : List ℕ) (c : Command) → IsLogged c → bytes ≡ log_record c ++ left
    → ¬ (version < 2 → sets_mode c ≡ false) → IsNoCommand version bytes
of_other_version free version bytes left c is front refused = λ o logged same.
    let one : o ≡ c = (free o c [] left logged.0 is (append-nil (log_record o) ∙ sym same ∙ front)).0 in
    refused (subst (λ (x : Command). version < 2 → sets_mode x ≡ false) one logged.1)

-- nothing is left after it
pub whole_record : (bytes left : List ℕ) (c : Command) → bytes ≡ log_record c ++ left → left ≡ [] → bytes ≡ log_record c
whole_record bytes left c front empty = front ∙ ap (λ (l : List ℕ). log_record c ++ l) empty ∙ append-nil (log_record c)

pub empty_is_nil : (left : List ℕ) → length left ≡ 0 → left ≡ []
empty_is_nil [] e = refl
empty_is_nil (b ∷ left) e = absurd (omega (arith, e))

-- ---- several records

-- one command more is there, whose record was the next one
pub one_more : (list : List PlacedCommand) (p : PlacedCommand) (rest : List PlacedRecord) → records_for (list ++ p ∷ []) ++ rest ≡ records_for list ++ placed_record p ∷ rest
one_more list p rest = ap (λ (l : List PlacedRecord). l ++ rest) (map-append placed_record list (p ∷ [])) ∙ append_assoc (records_for list) (placed_record p ∷ []) rest

-- the next record of a batch
next_record : (block : ℕ) (records : List (List ℕ)) (i : ℕ) (r : List ℕ) → i < length records → r ≡ get_or records i r
    → placed_in block (drop i records) ≡ (block, r) ∷ placed_in block (drop (i + 1) records)
next_record block records i r lt item =
    at_drop_more (placed_in block) records i r lt ∙ ap (λ (x : List ℕ). (block, x) ∷ placed_in block (drop (i + 1) records)) (sym item)

-- its command comes after the others
pub pushed : (version block : ℕ) (records : List (List ℕ)) (i : ℕ) (r bytes : List ℕ) (c : Command) (list new : List PlacedCommand) (all : List PlacedRecord)
    → i < length records → r ≡ get_or records i r → bytes ≡ r → IsRecordOf version bytes (Some c) → new ≡ list ++ record { block = block; command = c } ∷ []
    → All (IsPlacedIn version) list → records_for list ++ placed_in block (drop i records) ≡ all
    → All (IsPlacedIn version) new × (records_for new ++ placed_in block (drop (i + 1) records) ≡ all)
pushed version block records i r bytes c list new all lt item same found is each given =
    let p : PlacedCommand = record { block = block; command = c } in
    let rest : List PlacedRecord = placed_in block (drop (i + 1) records) in
    let record_is : r ≡ log_record c = sym same ∙ found.1 in (
      All-same (IsPlacedIn version) new (list ++ p ∷ []) is (All-push (IsPlacedIn version) list p each found.0),
      ap (λ (l : List PlacedCommand). records_for l ++ rest) is ∙ one_more list p rest
          ∙ ap (λ (x : List ℕ). records_for list ++ (block, x) ∷ rest) (sym record_is)
          ∙ ap (λ (l : List PlacedRecord). records_for list ++ l) (sym (next_record block records i r lt item)) ∙ given,
    )

-- it is of none
pub stopped : (version block : ℕ) (records : List (List ℕ)) (i : ℕ) (r bytes : List ℕ) (list : List PlacedCommand) (all : List PlacedRecord)
    → i < length records → r ≡ get_or records i r → bytes ≡ r → IsNoCommand version bytes
    → All (IsPlacedIn version) list → records_for list ++ placed_in block (drop i records) ≡ all → StopsAt version all block
stopped version block records i r bytes list all lt item same none each given =
    let rest : List PlacedRecord = placed_in block (drop (i + 1) records) in
    record {
      front = list;
      bytes = bytes;
      rest = rest;
      each = each;
      there = sym given ∙ ap (λ (l : List PlacedRecord). records_for list ++ l) (next_record block records i r lt item)
          ∙ ap (λ (x : List ℕ). records_for list ++ (block, x) ∷ rest) (sym same);
      none = none;
    }

-- there are no more
pub all_pushed : (version block : ℕ) (records : List (List ℕ)) (i : ℕ) (list : List PlacedCommand) (all : List PlacedRecord) → length records ≤ i
    → All (IsPlacedIn version) list → records_for list ++ placed_in block (drop i records) ≡ all → AreCommandsOf version all list
all_pushed version block records i list all le each given = record {
  each = each;
  same = sym (append-nil (records_for list)) ∙ ap (λ (l : List PlacedRecord). records_for list ++ l) (sym (at_drop_all (placed_in block) records i le)) ∙ given;
}

-- ---- several batches

-- the records of the next batch, and those of the ones after it
pub batch_split : (batches : List Batch) (i : ℕ) (b : Batch) (records : List (List ℕ)) (list : List PlacedCommand) → i < length batches → b ≡ get_or batches i b → records ≡ b.records
    → records_for list ++ placed_records (drop i batches) ≡ placed_records batches
    → records_for list ++ placed_in b.body records ++ placed_records (drop (i + 1) batches) ≡ placed_records batches
batch_split batches i b records list lt item same given =
    let more : List PlacedRecord = placed_records (drop (i + 1) batches) in
    let next : placed_records (drop i batches) ≡ placed_in b.body records ++ more =
    at_drop_more placed_records batches i b lt ∙ ap (λ (x : Batch). placed_in x.body x.records ++ more) (sym item)
    ∙ ap (λ (rs : List (List ℕ)). placed_in b.body rs ++ more) (sym same) in
    append_assoc (records_for list) (placed_in b.body records) more ∙ ap (λ (l : List PlacedRecord). records_for list ++ l) (sym next) ∙ given

-- the first records stop where all of them do
pub stops_more : (version : ℕ) (records more : List PlacedRecord) (fault : ImageFault) → IsCommandFault version records fault → IsCommandFault version (records ++ more) fault
stops_more version records more DeviceFault h = h
stops_more version records more NoMemory h = tt
stops_more version records more (Damaged block) h = record {
  front = h.front;
  bytes = h.bytes;
  rest = h.rest ++ more;
  each = h.each;
  there = ap (λ (l : List PlacedRecord). l ++ more) h.there ∙ append_assoc (records_for h.front) ((block, h.bytes) ∷ h.rest) more;
  none = h.none;
}

-- no batches are left
pub all_batches : (version : ℕ) (batches : List Batch) (i : ℕ) (list : List PlacedCommand) → length batches ≤ i
    → All (IsPlacedIn version) list → records_for list ++ placed_records (drop i batches) ≡ placed_records batches → AreCommandsOf version (placed_records batches) list
all_batches version batches i list le each given = record {
  each = each;
  same = sym (append-nil (records_for list)) ∙ ap (λ (l : List PlacedRecord). records_for list ++ l) (sym (at_drop_all placed_records batches i le)) ∙ given;
}
