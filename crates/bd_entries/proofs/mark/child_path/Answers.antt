use Rattle.std.proofs.Common.{◌≡◌, ℕ, List, ◌∷◌, [], ◌++◌, true, false, sym, ap, ◌∙◌, None, Some}
use Rattle.std.proofs.lemmas.Bool.{iff_false}
use Rattle.std.proofs.lemmas.Bool.Decides.{Decides-eqb}
use Rattle.std.proofs.lemmas.Slice.Eq.{strip_suffix_is}
use Rattle.bd_names.specs.Names.{is_name, key_of}
use Rattle.bd_entries.proofs.Options.{none_match}
use Rattle.bd_entries.proofs.Texts.{IsCutAt, IsChildText, no_text, child_sound, child_complete, child_text, text_child, text_front}
use Rattle.bd_entries.proofs.mark.child_path.Goals as goal
use Rattle.bd_entries.proofs.mark.child_path.Goals.{else-is_directory_at-via-then-is_directory_at+else-is_name, else-is_directory_at-via-else-is_directory_at}

pub returns-in_err-text : goal.returns-in_err-text
returns-in_err-text c = λ path names is.
    none_match c.from_residual.result _ _ c.from_residual.ensures
    (no_text path c.args.mark.now.entry c.args.key.now c.as_slice.result.now c.as_slice.ensures (strip_suffix_is Decides-eqb c.args.key.now c.as_slice.result.now None c.in_err-text.ensures.cases))

pub returns-then-is_name : goal.returns-then-is_name
returns-then-is_name c = λ path names is.
    let text = c.in_ok-text.text.now in
    let start = c.name_start.result in
    let cut : c.args.key.now ≡ c.in_ok-text.text.now ++ 0 ∷ 0 ∷ 0 ∷ [] =
    strip_suffix_is Decides-eqb c.args.key.now c.as_slice.result.now (Some c.in_ok-text.text) c.in_ok-text.ensures.cases ∙ ap (λ (e : List ℕ). c.in_ok-text.text.now ++ e) c.as_slice.ensures in
    let at : IsCutAt c.in_ok-text.text.now c.name_start.result = record { within = c.name_start.ensures.within; free = c.name_start.ensures.free; cut = c.name_start.ensures.cut } in
    let asked : IsChildText (key_of path) c.args.mark.now.entry c.in_ok-text.text.now c.name_start.result =
    child_text (key_of path) c.args.mark.now.path c.args.mark.now.entry c.in_ok-text.text.now c.split_at.result.0.now c.split_at.result.1.now c.name_start.result is c.split_at.ensures.front c.split_at.ensures.back
    (c.is_directory_at.ensures.0 c.if-is_directory_at.true) (sym c.is_name.ensures ∙ c.if-is_name.true) in
    let s = child_sound path c.args.mark.now.entry c.args.key.now c.in_ok-text.text.now c.name_start.result names at cut asked in
    (s.0.child, s.0.is_child, s.0.key_is, text_front c.in_ok-text.text.now c.args.key.now cut ∙ s.1)

pub returns-else-is_directory_at : goal.returns-else-is_directory_at
returns-else-is_directory_at c = λ path names is child of key_is.
    let cut : c.args.key.now ≡ c.in_ok-text.text.now ++ 0 ∷ 0 ∷ 0 ∷ [] =
    strip_suffix_is Decides-eqb c.args.key.now c.as_slice.result.now (Some c.in_ok-text.text) c.in_ok-text.ensures.cases ∙ ap (λ (e : List ℕ). c.in_ok-text.text.now ++ e) c.as_slice.ensures in
    let at : IsCutAt c.in_ok-text.text.now c.name_start.result = record { within = c.name_start.ensures.within; free = c.name_start.ensures.free; cut = c.name_start.ensures.cut } in
    let asked : IsChildText (key_of path) c.args.mark.now.entry c.in_ok-text.text.now c.name_start.result = child_complete path c.args.mark.now.entry c.args.key.now c.in_ok-text.text.now c.name_start.result child at cut of key_is in
    elim c.else-is_directory_at.branch [
      | else-is_directory_at-via-then-is_directory_at+else-is_name w ↦
          absurd (let no : true ≡ false = sym asked.named ∙ ap is_name (sym c.split_at.ensures.back) ∙ sym w.is_name.ensures ∙ w.if-is_name.false in cc)
      | else-is_directory_at-via-else-is_directory_at w ↦
          iff_false c.is_directory_at.ensures w.if-is_directory_at.false
          (text_child (key_of path) c.args.mark.now.path c.args.mark.now.entry c.in_ok-text.text.now c.split_at.result.0.now c.name_start.result is c.split_at.ensures.front asked)
    ]
