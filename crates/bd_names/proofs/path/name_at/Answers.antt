use Rattle.std.proofs.Common.{◌≡◌, ◌+◌, length, take, refl, arith}
use Rattle.bd_names.specs.Names.{names_in}
use Rattle.bd_names.proofs.NamesLaws.{slashed}
use Rattle.bd_names.proofs.CutsLemmas.{start_is, name_end, name_cut, end_fits}
use Rattle.bd_names.proofs.path.name_at.Goals as goal

pub slice_bounds-result-count : goal.slice_bounds-result-count
slice_bounds-result-count c =
    let start : c.start_of-start.result ≡ length (slashed (take c.args.i (names_in c.args.text.now))) + 1 =
    start_is c.args.text.now c.args.cuts.now c.args.i c.start_of-start.result c.requires.cut c.requires.in_range c.start_of-start.ensures in
    omega (arith, start, name_end c.args.text.now c.args.cuts.now _ c.args.i c.requires.cut refl c.requires.in_range)

pub slice_bounds-result-start : goal.slice_bounds-result-start
slice_bounds-result-start c = slice_bounds-result-count c

pub slice_bounds-result-end : goal.slice_bounds-result-end
slice_bounds-result-end c = end_fits c.args.text.now c.args.cuts.now _ c.args.i c.requires.cut refl c.requires.in_range

pub returns : goal.returns
returns c =
    name_cut c.args.text.now c.args.cuts.now _ c.args.i c.start_of-start.result c.requires.cut refl c.requires.in_range
    (start_is c.args.text.now c.args.cuts.now c.args.i c.start_of-start.result c.requires.cut c.requires.in_range c.start_of-start.ensures)
