use Rattle.std.proofs.Common.{ℕ, List, [], ◌∷◌, ◌++◌, refl, ap, subst, ◌∙◌, arith}
use Rattle.std.specs.Option.{option_copied}
use Rattle.bd_node.specs.declared.node.Node.{Node}
use Rattle.bd_flush.specs.declared.children.Side.TheVariants.{Lower, Both, Upper}
use Rattle.bd_flush.specs.Children.{IsSide}
use Rattle.bd_flush.proofs.ChildSplits.{is_parting, edge_lift, parting_fits, parting_both, parting_lower, parting_upper}
use Rattle.bd_flush.proofs.children.over_halves.Goals as goal

pub parting-requires : goal.parting-requires
parting-requires c = edge_lift c.args.node.now c.args.place c.args.edge c.requires.within c.requires.fits

pub with_upper-requires-clause-fits : goal.with_upper-requires-clause-fits
with_upper-requires-clause-fits c =
    parting_fits c.args.node.now c.args.place c.args.edge (option_copied c.end_of.result) c.args.halves.pivot c.in_ok-key.key c.args.next (is_parting c.args.node.now c.args.place c.args.edge c.edges.result.now (option_copied c.end_of.result) c.args.halves.pivot c.in_ok-key.key c.requires.within c.requires.fits c.edges.ensures c.end_of.ensures c.in_ok-key.ensures)
    (subst (λ (l : List ℕ). IsSide c.args.edge (option_copied c.end_of.result) l Both) c.as_slice.ensures c.in-Both.ensures) (omega arith) c.requires.room c.requires.next (omega arith)

pub returns-in_ok-one_half-in-Lower : goal.returns-in_ok-one_half-in-Lower
returns-in_ok-one_half-in-Lower c =
    parting_lower c.args.node.now c.args.place c.args.edge (option_copied c.end_of.result) c.args.halves c.in_ok-key.key c.args.next c.in_ok-one_half-in-Lower.field-0 (is_parting c.args.node.now c.args.place c.args.edge c.edges.result.now (option_copied c.end_of.result) c.args.halves.pivot c.in_ok-key.key c.requires.within c.requires.fits c.edges.ensures c.end_of.ensures c.in_ok-key.ensures)
    (subst (λ (l : List ℕ). IsSide c.args.edge (option_copied c.end_of.result) l Lower) c.as_slice.ensures c.in-Lower.ensures) c.in_ok-one_half-in-Lower.ensures

pub returns-in_ok-one_half-in-Upper : goal.returns-in_ok-one_half-in-Upper
returns-in_ok-one_half-in-Upper c =
    parting_upper c.args.node.now c.args.place c.args.edge (option_copied c.end_of.result) c.args.halves c.in_ok-key.key c.args.next c.in_ok-one_half-in-Upper.field-0 (is_parting c.args.node.now c.args.place c.args.edge c.edges.result.now (option_copied c.end_of.result) c.args.halves.pivot c.in_ok-key.key c.requires.within c.requires.fits c.edges.ensures c.end_of.ensures c.in_ok-key.ensures)
    (subst (λ (l : List ℕ). IsSide c.args.edge (option_copied c.end_of.result) l Upper) c.as_slice.ensures c.in-Upper.ensures) c.in_ok-one_half-in-Upper.ensures

pub returns-in_ok-push-in-Both : goal.returns-in_ok-push-in-Both
returns-in_ok-push-in-Both c =
    parting_both c.args.node.now c.args.place c.args.edge (option_copied c.end_of.result) c.args.halves c.in_ok-key.key c.args.next (record { node = c.in_ok-node-in-Both.node; half = c.args.halves.first; made = c.push.new.self }) (is_parting c.args.node.now c.args.place c.args.edge c.edges.result.now (option_copied c.end_of.result) c.args.halves.pivot c.in_ok-key.key c.requires.within c.requires.fits c.edges.ensures c.end_of.ensures c.in_ok-key.ensures)
    (subst (λ (l : List ℕ). IsSide c.args.edge (option_copied c.end_of.result) l Both) c.as_slice.ensures c.in-Both.ensures) (omega arith) c.in_ok-node-in-Both.ensures
    refl (c.in_ok-push-in-Both.ensures.items ∙ ap (λ (l : List Node). l ++ c.args.halves.second ∷ []) c.new-made.ensures.items)
