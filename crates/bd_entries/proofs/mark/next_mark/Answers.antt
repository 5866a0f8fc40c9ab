use Rattle.std.proofs.Common.{◌≡◌, List, ℕ, ◌∷◌, [], ◌++◌, Option, None, Some, inl, inr, refl, sym, ap, subst, ◌∙◌, arith}
use Rattle.std.specs.Prelude.{is_some}
use Rattle.std.proofs.lemmas.Bool.{iff_false}
use Rattle.bd_records.specs.declared.Record.{Record}
use Rattle.bd_message.specs.KeyMaps.{IsNextEntry}
use Rattle.bd_entries.specs.declared.mark.Mark.{Mark}
use Rattle.bd_entries.specs.Marks.{IsAllowedAs, IsSeen}
use Rattle.bd_entries.proofs.Options.{match_none, match_some}
use Rattle.bd_entries.proofs.Steps.{block_seen, child_seen}
use Rattle.bd_entries.proofs.Nexts.{next_is}
use Rattle.bd_entries.proofs.mark.next_mark.Goals as goal

pub returns-then-is_block_of : goal.returns-then-is_block_of
returns-then-is_block_of c = λ at low seen next.
    block_seen c.args.has_modes at low c.args.key.now c.args.value.now c.args.mark (λ i. omega (arith, c.type_inv.value i)) seen (c.is_block_of.ensures.0 c.if-is_block_of.true) next

pub returns-in_default : goal.returns-in_default
returns-in_default c = λ at low seen next u of.
    let names = seen.is.tree.names seen.marked.path (ap is_some seen.marked.has) in
    let none : c.child_path.result ≡ None = cc in
    elim (next_is c.args.has_modes at low c.args.key.now c.args.value.now c.args.mark u of seen next (λ i. omega (arith, c.type_inv.key i))) [
      | inl block ↦ iff_false c.is_block_of.ensures c.if-is_block_of.false block
      | inr child ↦ match_none c.child_path.result _ _ none (c.child_path.ensures seen.marked.path names seen.marked.key_is) child.child child.is_child child.key_is
    ]

pub returns-in_default-read_allowed : goal.returns-in_default-read_allowed
returns-in_default-read_allowed c = λ at low seen next u of.
    let none : c.read_allowed.result ≡ None = cc in
    elim (next_is c.args.has_modes at low c.args.key.now c.args.value.now c.args.mark u of seen next (λ i. omega (arith, c.type_inv.key i))) [
      | inl block ↦ iff_false c.is_block_of.ensures c.if-is_block_of.false block
      | inr child ↦ subst (λ (o : Option Record). IsAllowedAs c.args.has_modes c.args.value.now o) none c.read_allowed.ensures child.new child.within child.allowed child.value_is
    ]

pub returns : goal.returns
returns c = λ at low seen next.
    let names = seen.is.tree.names seen.marked.path (ap is_some seen.marked.has) in
    let found = match_some c.child_path.result _ _ c.in-Some.path c.in-Some.is (c.child_path.ensures seen.marked.path names seen.marked.key_is) in
    let allowed : IsAllowedAs c.args.has_modes c.args.value.now (Some c.in-Some-read_allowed.entry) =
    subst (λ (o : Option Record). IsAllowedAs c.args.has_modes c.args.value.now o) c.in-Some-read_allowed.is c.read_allowed.ensures in
    let new : Mark = record { path = c.in_ok-path.path; entry = c.in-Some-read_allowed.entry } in
    subst (λ (k : List ℕ). IsSeen c.args.has_modes at (k ++ 0 ∷ []) new) (sym found.2)
    (child_seen c.args.has_modes at low c.args.value.now c.args.mark new found.0 c.in-Some-read_allowed.entry seen found.1 (subst (λ (k : List ℕ). IsNextEntry at low [] (Some (k, c.args.value.now))) found.2 next)
    allowed.0 allowed.1 allowed.2 (c.in_ok-path.ensures ∙ found.3) refl)
