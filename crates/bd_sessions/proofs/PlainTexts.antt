-- What is said to a client has no newline, and stands after the client's number.
use Rattle.std.proofs.Common.{◌≡◌, ℕ, ◌+◌, ◌≤◌, false, List, [], ◌∷◌, ◌++◌, length, take, nat_eq, refl, sym, ap, ◌∙◌, arith, append_assoc}
use Rattle.std.specs.Prelude.{codes}
use Rattle.std.specs.Fmt.{decimal}
use Rattle.std.specs.declared.option.Option.{Option}
use Rattle.std.specs.declared.option.Option.TheVariants.{None, Some}
use Rattle.std.proofs.Math.Seq.{take-append-add}
use Rattle.std.proofs.lemmas.List.{length-take, take-append-le}
use Rattle.std.proofs.lemmas.List.Elements.{All-nil}
use Rattle.bd_script.specs.Lines.{HasNoNewline}
use Rattle.bd_script.specs.declared.denial.Denial.{Denial}
use Rattle.bd_script.specs.declared.denial.Denial.TheVariants.{NoHandle, Gone, HandlesFull, LongPath, BadStream}
use Rattle.bd_script.proofs.OneLine.{plain_text, plain_join, decimal_plain}
use Rattle.bd_sessions.specs.declared.replies.TurnReply.{TurnReply}
use Rattle.bd_sessions.specs.declared.replies.TurnReply.TheVariants.{Opened, No}
use Rattle.bd_sessions.specs.Replies.{tag_text, turn_text, turn_line, said_line}

pub tag_plain : (client : Option ℕ) → HasNoNewline (tag_text client)
tag_plain None = All-nil (λ b. nat_eq b 10 ≡ false)
tag_plain (Some client) = plain_join (decimal client) (32 ∷ []) (decimal_plain client) (plain_text (32 ∷ []) refl)

pub opened_plain : (number : ℕ) → HasNoNewline (turn_text (Opened number))
opened_plain number = plain_join (codes "ok ") (decimal number) (plain_text (codes "ok ") refl) (decimal_plain number)

pub no_plain : (denial : Denial) → HasNoNewline (turn_text (No denial))
no_plain NoHandle = plain_text (turn_text (No NoHandle)) refl
no_plain Gone = plain_text (turn_text (No Gone)) refl
no_plain HandlesFull = plain_text (turn_text (No HandlesFull)) refl
no_plain LongPath = plain_text (turn_text (No LongPath)) refl
no_plain BadStream = plain_text (turn_text (No BadStream)) refl

-- a text that was written after another one
two_parts : (a r : ℕ) (front mid rest tag text : List ℕ) → front ≡ tag → a ≡ length tag → take r mid ≡ text → r ≡ length text
    → take (a + r) (front ++ (mid ++ rest)) ≡ tag ++ text
two_parts a r front mid rest tag text is_tag size is_text long =
    let within : r ≤ length mid = omega (arith, ap length is_text, length-take r mid) in
    ap (λ n. take (n + r) (front ++ (mid ++ rest))) (size ∙ sym (ap length is_tag))
    ∙ take-append-add front (mid ++ rest) r
    ∙ ap (λ l. front ++ l) (take-append-le r mid rest within ∙ is_text)
    ∙ ap (λ l. l ++ text) is_tag

-- what is said, after the client's number
pub said_after : (client : Option ℕ) (said : TurnReply) (a r : ℕ) (front mid rest : List ℕ) → front ≡ tag_text client → a ≡ length (tag_text client)
    → take r mid ≡ turn_line said → r ≡ length (turn_line said) → take (a + r) (front ++ (mid ++ rest)) ≡ said_line client said
said_after client said a r front mid rest is_tag size is_text long =
    two_parts a r front mid rest (tag_text client) (turn_line said) is_tag size is_text long
    ∙ sym (append_assoc (tag_text client) (turn_text said) (10 ∷ []))
