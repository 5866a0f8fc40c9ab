use Rattle.std.proofs.Common.{◌≡◌, ◌∷◌, [], ◌++◌, List, ℕ, true, false, refl, sym, ap, subst, ◌∙◌, Some}
use Rattle.std.specs.Prelude.{not, nat_eq}
use Rattle.std.specs.Cmp.Lexicographic.{pointwise}
use Rattle.std.proofs.lemmas.Bool.{not-false}
use Rattle.std.proofs.lemmas.Slice.Eq.{bytes_eq-Decides}
use Rattle.bd_records.proofs.Lengths.{one_record}
use Rattle.bd_represent.specs.EntryKeys.{record_key}
use Rattle.bd_message.specs.KeyMaps.{IsNextEntry}
use Rattle.bd_entries.specs.declared.mark.Mark.{Mark}
use Rattle.bd_entries.specs.Marks.{is_dir, IsSeen}
use Rattle.bd_entries.proofs.Options.{none_match}
use Rattle.bd_entries.proofs.Steps.{root_seen}
use Rattle.bd_entries.proofs.Nexts.{first_is}
use Rattle.bd_entries.proofs.mark.first_mark.Goals as goal

pub returns-then-ne : goal.returns-then-ne
returns-then-ne c = λ at next t of.
    let first = first_is c.args.has_modes at c.args.key.now c.args.value.now t of next in
    let same : pointwise nat_eq c.args.key.now c.as_slice.result.now ≡ true = (bytes_eq-Decides c.args.key.now c.as_slice.result.now).1 (first.key_is ∙ sym c.as_slice.ensures) in
    let other : true ≡ not (pointwise nat_eq c.args.key.now c.as_slice.result.now) = c.if-ne.ensures in
    absurd (let no : true ≡ false = other ∙ ap not same in cc)

pub returns-in_err-entry : goal.returns-in_err-entry
returns-in_err-entry c = λ at next.
    none_match c.from_residual.result _ _ c.from_residual.ensures
    (λ t of. let first = first_is c.args.has_modes at c.args.key.now c.args.value.now t of next in c.in_err-entry.ensures first.entry first.within first.allowed first.value_is)

pub returns-else-is_dir : goal.returns-else-is_dir
returns-else-is_dir c = λ at next t of.
    let first = first_is c.args.has_modes at c.args.key.now c.args.value.now t of next in
    let same : c.in_ok-entry.entry ≡ first.entry = one_record c.in_ok-entry.entry first.entry c.in_ok-entry.ensures.0 first.within (sym c.in_ok-entry.ensures.2 ∙ first.value_is) in
    absurd (let no : true ≡ false = sym first.directory ∙ ap is_dir (sym same) ∙ sym c.is_dir.ensures ∙ c.if-is_dir.false in cc)

pub returns-then-is_dir : goal.returns-then-is_dir
returns-then-is_dir c = λ at next.
    let key : c.args.key.now ≡ record_key [] = (bytes_eq-Decides c.args.key.now c.as_slice.result.now).0 (not-false (pointwise nat_eq c.args.key.now c.as_slice.result.now) (sym c.if-ne.ensures)) ∙ c.as_slice.ensures in
    let mark : Mark = record { path = c.from_vec-path.result; entry = c.in_ok-entry.entry } in
    subst (λ (k : List ℕ). IsSeen c.args.has_modes at (k ++ 0 ∷ []) mark) (sym key)
    (root_seen c.args.has_modes at c.args.value.now c.in_ok-entry.entry mark (subst (λ (k : List ℕ). IsNextEntry at [] [] (Some (k, c.args.value.now))) key next)
    c.in_ok-entry.ensures.0 c.in_ok-entry.ensures.1 (sym c.is_dir.ensures ∙ c.if-is_dir.true) c.in_ok-entry.ensures.2 (c.from_vec-path.ensures ∙ c.new.ensures.items) refl)
