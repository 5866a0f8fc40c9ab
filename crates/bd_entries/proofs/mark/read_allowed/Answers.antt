use Rattle.std.proofs.Common.{◌≡◌, true, false, sym, ap, ◌∙◌}
use Rattle.std.proofs.lemmas.Bool.{eqb-false}
use Rattle.bd_records.proofs.Lengths.{one_record}
use Rattle.bd_entries.specs.Marks.{mode_of}
use Rattle.bd_entries.proofs.mark.read_allowed.Goals as goal
use Rattle.bd_entries.proofs.mark.read_allowed.Goals.{then-has_modes, else-has_modes}

pub returns-else-mode_of-eq0 : goal.returns-else-mode_of-eq0
returns-else-mode_of-eq0 c = λ r within allowed encoded.
    let same : c.in_ok-entry.entry ≡ r = one_record c.in_ok-entry.entry r c.in_ok-entry.ensures.0 within (sym c.in_ok-entry.ensures.1 ∙ encoded) in
    elim c.if-has_modes.branch [
      | then-has_modes w ↦ absurd (let no : true ≡ false = sym w.if-has_modes.true ∙ sym w.value-is ∙ c.if-mode_of-eq0.false in cc)
      | else-has_modes w ↦ eqb-false w.mode_of.result 0 (sym w.value-is ∙ c.if-mode_of-eq0.false) (w.mode_of.ensures ∙ ap mode_of same ∙ allowed w.if-has_modes.false)
    ]
