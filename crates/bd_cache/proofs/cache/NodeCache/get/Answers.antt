use Rattle.std.proofs.Common.{nat_eq, ◌∙◌, ap, inl}
use Rattle.std.specs.Option.{option_map}
use Rattle.std.specs.Map.{lookup}
use Rattle.bd_cache.specs.Cache.{node_of}
use Rattle.bd_cache.proofs.Keeping.{lookup-promoted, lookup-promoted_other}
use Rattle.bd_cache.proofs.cache.NodeCache.get.Goals as goal

pub returns-in_err-kept-clause-own : goal.returns-in_err-kept-clause-own
returns-in_err-kept-clause-own c =
    inl (ap (λ r. option_map node_of (lookup (nat_eq c.args.id) r.entries)) c.get.follows.holds-at-none
    ∙ ap (option_map node_of) (lookup-promoted c.args.id c.args.self.now.kept.entries))

pub returns-in_err-kept-clause-others : goal.returns-in_err-kept-clause-others
returns-in_err-kept-clause-others c = λ other apart.
    ap (λ r. option_map node_of (lookup (nat_eq other) r.entries)) c.get.follows.holds-at-none
    ∙ ap (option_map node_of) (lookup-promoted_other c.args.id other c.args.self.now.kept.entries apart)

pub returns-in-Ok-clause-own : goal.returns-in-Ok-clause-own
returns-in-Ok-clause-own c =
    inl (ap (λ r. option_map node_of (lookup (nat_eq c.args.id) r.entries)) c.get.follows.holds-at-none
    ∙ ap (option_map node_of) (lookup-promoted c.args.id c.args.self.now.kept.entries))

pub returns-in-Ok-clause-others : goal.returns-in-Ok-clause-others
returns-in-Ok-clause-others c = λ other apart.
    ap (λ r. option_map node_of (lookup (nat_eq other) r.entries)) c.get.follows.holds-at-none
    ∙ ap (option_map node_of) (lookup-promoted_other c.args.id other c.args.self.now.kept.entries apart)

pub returns-in-Err-clause-found : goal.returns-in-Err-clause-found
returns-in-Err-clause-found c =
    c.take.ensures.found
    ∙ ap (λ r. option_map node_of (lookup (nat_eq c.args.id) r.entries)) c.get.follows.holds-at-none
    ∙ ap (option_map node_of) (lookup-promoted c.args.id c.args.self.now.kept.entries)

pub returns-in-Err-clause-others : goal.returns-in-Err-clause-others
returns-in-Err-clause-others c = λ other apart.
    c.take.ensures.others other apart
    ∙ ap (λ r. option_map node_of (lookup (nat_eq other) r.entries)) c.get.follows.holds-at-none
    ∙ ap (option_map node_of) (lookup-promoted_other c.args.id other c.args.self.now.kept.entries apart)
