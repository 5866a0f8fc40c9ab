use Rattle.std.proofs.Common.{nat_eq, ◌∙◌, ap, inl, inr}
use Rattle.std.specs.Cmp.{nat_eq_equiv}
use Rattle.std.specs.Option.{option_map}
use Rattle.std.specs.Map.{lookup}
use Rattle.lru.proofs.CallerLemmas.{lookup-put_entries}
use Rattle.bd_cache.specs.Cache.{node_of}
use Rattle.bd_cache.proofs.Keeping.{lookup-put_other, lookup-put_room}
use Rattle.bd_cache.proofs.cache.NodeCache.put.Goals as goal

pub returns-clause-kept : goal.returns-clause-kept
returns-clause-kept c =
    ap (λ r. option_map node_of (lookup (nat_eq c.args.id) r.entries)) c.in_ok-put.ensures.entries
    ∙ ap (option_map node_of) (lookup-put_entries nat_eq c.args.self.now.kept c.args.id c.args.node nat_eq_equiv)

pub returns-clause-others : goal.returns-clause-others
returns-clause-others c = λ other apart.
    let put = ap (λ r. option_map node_of (lookup (nat_eq other) r.entries)) c.in_ok-put.ensures.entries in
    elim (lookup-put_other c.args.self.now.kept c.args.id other c.args.node apart) [
      | inl same ↦ inl (put ∙ ap (option_map node_of) same)
      | inr gone ↦ inr (put ∙ ap (option_map node_of) gone)
    ]

pub returns-clause-none_goes : goal.returns-clause-none_goes
returns-clause-none_goes c = λ room other apart.
    ap (λ r. option_map node_of (lookup (nat_eq other) r.entries)) c.in_ok-put.ensures.entries
    ∙ ap (option_map node_of) (lookup-put_room c.args.self.now.kept c.args.id other c.args.node apart room)
