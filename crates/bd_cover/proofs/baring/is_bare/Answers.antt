use Rattle.std.proofs.Common.{◌∙◌, [], None, sym, arith}
use Rattle.std.specs.Option.{option_copied}
use Rattle.bd_cover.specs.Bare.{look_limit}
use Rattle.bd_cover.proofs.Asks.{asks_child}
use Rattle.bd_cover.proofs.Nothing.{bare_found}
use Rattle.bd_cover.proofs.baring.is_bare.Goals as goal

pub looks_left-requires-clause-kept : goal.looks_left-requires-clause-kept
looks_left-requires-clause-kept g c =
    c.requires.kept c.in-Some.ask.child (asks_child c.args.edge.now (option_copied c.args.hi) [] None c.in-Some.ask (sym c.in-Some.is ∙ c.in_ok-ask.ensures.asked))

pub returns-clause-bare : goal.returns-clause-bare
returns-clause-bare g c = λ known.
    bare_found (g.S.NodeStore.nodes c.args.store.now) c.args.edge.now (option_copied c.args.hi) c.in-Some.ask c.in_ok-rest.rest c.is_some.result (sym c.in-Some.is ∙ c.in_ok-ask.ensures.asked) (c.in_ok-rest.ensures.looked known look_limit (omega arith)) c.is_some.ensures

pub returns-clause-child : goal.returns-clause-child
returns-clause-child g c = λ so.
    (c.in-Some.ask.child, asks_child c.args.edge.now (option_copied c.args.hi) [] None c.in-Some.ask (sym c.in-Some.is ∙ c.in_ok-ask.ensures.asked))
