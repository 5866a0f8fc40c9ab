use Rattle.std.proofs.Common.{◌≡◌, ℕ, List, ◌++◌, append_assoc, subst, IfOk}
use Rattle.std.specs.Prelude.{codes}
use Rattle.std.specs.Fmt.{decimal}
use Rattle.std.specs.String.{string_bytes}
use Rattle.bd_script.specs.Generated.{line_text}
use Rattle.bd_script.proofs.generated.DrawnLine.text.Goals as goal

-- two texts of four parts each, after a first one and with one between them
two_texts : (first a b c d between e f g h : List ℕ)
    → first ++ (a ++ (b ++ (c ++ (d ++ (between ++ (e ++ (f ++ (g ++ h))))))))
    ≡ first ++ (a ++ b ++ c ++ d) ++ between ++ (e ++ f ++ g ++ h)
two_texts first a b c d between e f g h = simp append_assoc

pub returns-in-CreateFile : goal.returns-in-CreateFile
unfolding line_text
returns-in-CreateFile c =
    subst (λ bs. IfOk c.format.result (λ text. string_bytes text ≡ bs))
    (rw (c.in-CreateFile.is) (simp append_assoc)) c.format.ensures.ok

pub returns-in_ok-bytes-in-WriteFile : goal.returns-in_ok-bytes-in-WriteFile
unfolding line_text
returns-in_ok-bytes-in-WriteFile c =
    subst (λ bs. IfOk c.format-in-WriteFile.result (λ text. string_bytes text ≡ bs))
    (rw (c.in_ok-bytes-in-WriteFile.ensures, c.in-WriteFile.is) (simp append_assoc)) c.format-in-WriteFile.ensures.ok

pub returns-in-TruncateFile : goal.returns-in-TruncateFile
unfolding line_text
returns-in-TruncateFile c =
    subst (λ bs. IfOk c.format-in-TruncateFile.result (λ text. string_bytes text ≡ bs))
    (rw (c.in-TruncateFile.is) (simp append_assoc)) c.format-in-TruncateFile.ensures.ok

pub returns-in-RemoveFile : goal.returns-in-RemoveFile
unfolding line_text
returns-in-RemoveFile c =
    subst (λ bs. IfOk c.format-in-RemoveFile.result (λ text. string_bytes text ≡ bs))
    (rw (c.in-RemoveFile.is) (simp append_assoc)) c.format-in-RemoveFile.ensures.ok

pub returns-in-CloneFile : goal.returns-in-CloneFile
unfolding line_text
returns-in-CloneFile c =
    let dir = decimal c.args.self.dir in
    let file = decimal c.args.self.file in
    let text = two_texts (codes "clone ") (codes "/d") dir (codes "/f") file (codes " ") (codes "/d") dir (codes "/g") file in
    subst (λ bs. IfOk c.format-in-CloneFile.result (λ text. string_bytes text ≡ bs))
    (rw c.in-CloneFile.is text) c.format-in-CloneFile.ensures.ok

pub returns-in-CloneDir : goal.returns-in-CloneDir
unfolding line_text
returns-in-CloneDir c =
    subst (λ bs. IfOk c.format-in-CloneDir.result (λ text. string_bytes text ≡ bs))
    (rw (c.in-CloneDir.is) (simp append_assoc)) c.format-in-CloneDir.ensures.ok

pub returns-in-ReadFile : goal.returns-in-ReadFile
unfolding line_text
returns-in-ReadFile c =
    subst (λ bs. IfOk c.format-in-ReadFile.result (λ text. string_bytes text ≡ bs))
    (rw (c.in-ReadFile.is) (simp append_assoc)) c.format-in-ReadFile.ensures.ok
