use Rattle.std.proofs.Common.{nat_eq, ◌∙◌, ap}
use Rattle.std.specs.Option.{option_map}
use Rattle.std.specs.Map.{lookup}
use Rattle.bd_cache.specs.Cache.{node_of}
use Rattle.bd_cache.proofs.Keeping.{lookup-gone, lookup-other}
use Rattle.bd_cache.proofs.cache.NodeCache.take.Goals as goal

pub returns-clause-gone : goal.returns-clause-gone
returns-clause-gone c =
    ap (λ r. option_map node_of (lookup (nat_eq c.args.id) r.entries)) c.pop.ensures.entries
    ∙ ap (option_map node_of) (lookup-gone c.args.id c.args.self.now.kept.entries c.len.ensures.valid.0)

pub returns-clause-others : goal.returns-clause-others
returns-clause-others c = λ other apart.
    ap (λ r. option_map node_of (lookup (nat_eq other) r.entries)) c.pop.ensures.entries
    ∙ ap (option_map node_of) (lookup-other c.args.id other c.args.self.now.kept.entries apart)
