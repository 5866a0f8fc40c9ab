use Rattle.std.proofs.Common.{length, ap, sym, ◌∙◌, arith}
use Rattle.std.proofs.lemmas.Bool.{eqb-false, eqb-true}
use Rattle.bd_records.proofs.Lengths.{mode_is, mode_read, no_mode, no_bytes}
use Rattle.bd_records.proofs.read_mode.Goals as goal

pub returns-then-is_empty : goal.returns-then-is_empty
returns-then-is_empty c =
    (omega arith, no_bytes c.args.bytes.now (eqb-true (length c.args.bytes.now) 0 (sym c.is_empty.ensures ∙ c.if-is_empty.true)))

pub returns-in-Ok : goal.returns-in-Ok
returns-in-Ok c = (
  omega arith,
  mode_is c.args.bytes.now c.u16.new.self.left c.in-Ok.mode (sym c.new-cursor.ensures.left ∙ c.in-Ok.ensures.read.front)
      (sym c.left.ensures ∙ no_bytes c.left.result.now (eqb-true (length c.left.result.now) 0 (sym c.is_empty-then-mode-le-MAX_MODE.ensures ∙ c.if-is_empty-2.true))) (λ none. omega arith),
)

pub returns-in_default : goal.returns-in_default
returns-in_default c = λ n within encoded.
    let found = mode_read c.args.bytes.now c.u16.new.self.left c.in-Ok.mode n (sym c.new-cursor.ensures.left ∙ c.in-Ok.ensures.read.front) (omega arith) within encoded in
    eqb-false (length c.left.result.now) 0 (sym c.is_empty-then-mode-le-MAX_MODE.ensures ∙ c.if-is_empty-2.false) (ap length (c.left.ensures ∙ found.1))

pub returns-in_default-2 : goal.returns-in_default-2
returns-in_default-2 c = λ n within encoded.
    let same = (mode_read c.args.bytes.now c.u16.new.self.left c.in-Ok.mode n (sym c.new-cursor.ensures.left ∙ c.in-Ok.ensures.read.front) (omega arith) within encoded).0 in
    omega (arith, same)

pub returns-in_default-3 : goal.returns-in_default-3
returns-in_default-3 c = λ n within encoded.
    (mode_read c.args.bytes.now c.u16.new.self.left c.in-Ok.mode n (sym c.new-cursor.ensures.left ∙ c.in-Ok.ensures.read.front) (omega arith) within encoded).2 (omega arith)

pub returns-in_default-4 : goal.returns-in_default-4
returns-in_default-4 c = λ n within encoded.
    no_mode c.args.bytes.now n (λ none. eqb-false (length c.args.bytes.now) 0 (sym c.is_empty.ensures ∙ c.if-is_empty.false) (ap length none))
    (omega (arith, c.in_default.ensures.short, ap length c.new-cursor.ensures.left)) encoded
