-- Where a new entry can be made.
use Rattle.std.proofs.Common.{◌≡◌, ℕ, Bool, List, true, false, not, ◌&&◌, refl, sym, ap, ◌∙◌}
use Rattle.std.specs.Prelude.{Option, Some, None, is_some, Result, Ok, Err, IfOk}
use Rattle.std.specs.Option.{option_map, option_and_then}
use Rattle.std.specs.FinMap.{get}
use Rattle.bd_names.specs.Names.{parent_of}
use Rattle.bd_command.specs.declared.refusal.Refusal.{Refusal}
use Rattle.bd_command.specs.declared.refusal.Refusal.TheVariants.{Exists}
use Rattle.bd_model.specs.Tree.{Entry, Directory, FileWith, Tree}
use Rattle.bd_model.specs.Step.{place_refusal, new_refusal, target_refusal, has_file, is_taken, parent_refusal}
use Rattle.bd_records.specs.declared.Record.{Record}
use Rattle.bd_records.specs.declared.Record.TheVariants.{Dir, File}
use Rattle.bd_represent.specs.Represents.{record_of}

-- nothing stands where there is no record
found_none : (o : Option Entry) (read : Option Record) → read ≡ option_map record_of o → false ≡ is_some read → o ≡ None
found_none None read is none = refl
found_none (Some e) read is none = let same : false ≡ true = none ∙ ap is_some is in cc

pub free_where : (t : Tree) (path : List (List ℕ)) (read : Option Record) (refusal : Option Refusal) → read ≡ option_map record_of (get t path) → false ≡ is_some read
    → refusal ≡ parent_refusal (option_and_then (get t) (parent_of path)) → refusal ≡ new_refusal t path
free_where t path read refusal is none why =
    let free : get t path ≡ None = found_none (get t path) read is none in
    why ∙ sym (ap (λ (o : Option Entry). place_refusal (is_some o) t path) free)

-- where what is there gives way
pub free_target : (t : Tree) (a b : List (List ℕ)) (taken : Bool) (refusal : Option Refusal) → taken ≡ is_taken (get t a) (get t b) → taken ≡ false
    → refusal ≡ parent_refusal (option_and_then (get t) (parent_of b)) → refusal ≡ target_refusal t a b
free_target t a b taken refusal is free why = why ∙ sym (ap (λ (x : Bool). place_refusal x t b) (sym is ∙ free))

-- and where it doesn't
pub taken_target : (t : Tree) (a b : List (List ℕ)) (taken : Bool) → taken ≡ is_taken (get t a) (get t b) → taken ≡ true → Some Exists ≡ target_refusal t a b
taken_target t a b taken is holds = sym (ap (λ (x : Bool). place_refusal x t b) (sym is ∙ holds))

both : (b : Bool) → not b ≡ not (b && true)
both true = refl
both false = refl

-- a file gives way to a file alone
pub file_taken : (moved there : Option Entry) (found : Bool) (read : Option Record) (len mode : ℕ) → read ≡ option_map record_of there → read ≡ Some (File len mode) → found ≡ has_file moved → not found ≡ is_taken moved there
file_taken moved None found read len mode is some file = absurd (let no : ◌≡◌ {A = Option Record} None (Some (File len mode)) = sym is ∙ some in cc)
file_taken moved (Some (Directory m)) found read len mode is some file = absurd (let no : ◌≡◌ {A = Option Record} (Some (Dir m)) (Some (File len mode)) = sym is ∙ some in cc)
file_taken moved (Some (FileWith m bytes)) found read len mode is some file = ap not file ∙ both (has_file moved)

-- what stands where there is a record
pub found_some : (o : Option Entry) (read : Option Record) (r : Record) → read ≡ option_map record_of o → read ≡ Some r → (e : Entry) × (o ≡ Some e) × (record_of e ≡ r)
found_some None read r is some = absurd (let no : ◌≡◌ {A = Option Record} None (Some r) = sym is ∙ some in cc)
found_some (Some e) read r is some = let same : ◌≡◌ {A = Option Record} (Some (record_of e)) (Some r) = sym is ∙ some in (e, refl, cc)

-- what holds of the value where there is one, and so another fact
pub of_ok : {T E : Type 0} (r : Result T E) (P Q : T → Type 0) → IfOk r P → ((x : T) → P x → Q x) → IfOk r Q
of_ok (Ok x) P Q h f = f x h
of_ok (Err e) P Q h f = tt

pub at_parent : (t : Tree) (above : Option (List (List ℕ))) (parent : List (List ℕ)) (refusal : Option Refusal) → above ≡ Some parent → refusal ≡ parent_refusal (get t parent) → refusal ≡ parent_refusal (option_and_then (get t) above)
at_parent t above parent refusal is why = why ∙ sym (ap (λ (o : Option (List (List ℕ))). parent_refusal (option_and_then (get t) o)) is)
