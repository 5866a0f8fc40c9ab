use Rattle.std.proofs.Common.{◌≡◌, ◌≤◌, ◌==◌, ◌++◌, ◌∷◌, [], List, ℕ, length, true, arith, ap, sym, refl, ◌∙◌, append-nil}
use Rattle.std.proofs.lemmas.Bool.Decides.{nat_tests}
use Rattle.bd_wire.specs.Text.{text16}
use Rattle.bd_wire.proofs.TextLemmas.{IsPrefixFree-text16}
use Rattle.bd_log.proofs.batch.is_record.Goals as goal

not_nil : (n : ℕ) → 1 ≤ n → true ≡ (n == 0) → ⊥
not_nil n some e = grind (arith, nat_tests)

nil_from : (xs : List ℕ) → true ≡ (length xs == 0) → xs ≡ []
nil_from [] e = refl
nil_from (x ∷ xs) e = let no : ⊥ = not_nil (length (x ∷ xs)) (omega arith) e in absurd no

pub returns-in-Ok : goal.returns-in-Ok
returns-in-Ok c =
    let text = c.in-Ok._text.now in
    let left = c.text16.new.self.left in
    let read = sym c.new-cursor.ensures.left ∙ c.in-Ok.ensures.read.front in (
      λ is. let none : left ≡ [] = nil_from left (sym is ∙ c.is_empty.ensures ∙ ap (λ l. length l == 0) c.left.ensures) in
          (text, c.in-Ok.ensures.fits, read ∙ ap (λ l. text16 text ++ l) none ∙ append-nil (text16 text)),
      λ h. let none = IsPrefixFree-text16 text h.0 left [] c.in-Ok.ensures.fits h.1 (sym read ∙ h.2 ∙ sym (append-nil (text16 h.0))) in
          c.is_empty.ensures ∙ ap (λ l. length l == 0) (c.left.ensures ∙ none.1),
    )

pub returns-in-Err : goal.returns-in-Err
returns-in-Err c =
    (λ no. cc, λ h. absurd (c.in-Err.ensures.short h.0 [] h.1 (c.new-cursor.ensures.left ∙ h.2 ∙ sym (append-nil (text16 h.0)))))
