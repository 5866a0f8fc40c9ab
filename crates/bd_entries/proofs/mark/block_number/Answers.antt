use Rattle.std.proofs.Common.{ℕ, ◌∷◌, sym, subst, Option, None, Some}
use Rattle.std.specs.Int.{w32}
use Rattle.std.proofs.lemmas.Bool.Decides.{Decides-eqb}
use Rattle.std.proofs.lemmas.Slice.Eq.{strip_prefix_is}
use Rattle.bd_wire.specs.Numbers.{be}
use Rattle.bd_entries.specs.Marks.{IsNumberOf}
use Rattle.bd_entries.proofs.Numbers.{number_of}
use Rattle.bd_entries.proofs.mark.block_number.Goals as goal

pub returns-in_err-rest : goal.returns-in_err-rest
returns-in_err-rest c =
    subst (λ (o : Option ℕ). IsNumberOf c.args.path.now c.args.key.now o) (sym c.from_residual.ensures)
    (λ n small encoded. strip_prefix_is Decides-eqb c.args.key.now c.args.path.now None c.in_err-rest.ensures.cases (0 ∷ 1 ∷ be w32 n) encoded)

pub returns : goal.returns
returns c =
    number_of c.args.path.now c.args.key.now c.in_ok-rest.rest.now c.as_slice.result.now c.in_ok-number.number.now c.number_in.result
    (strip_prefix_is Decides-eqb c.args.key.now c.args.path.now (Some c.in_ok-rest.rest) c.in_ok-rest.ensures.cases)
    (strip_prefix_is Decides-eqb c.in_ok-rest.rest.now c.as_slice.result.now (Some c.in_ok-number.number) c.in_ok-number.ensures.cases)
    c.as_slice.ensures c.number_in.ensures
