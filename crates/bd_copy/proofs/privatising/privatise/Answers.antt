use Rattle.std.proofs.Common.{◌+◌, ◌≤◌, ◌∙◌, sym, arith}
use Rattle.std.specs.Option.{option_copied}
use Rattle.bd_copy.proofs.Shortened.{sound_again}
use Rattle.bd_copy.proofs.Copied.{child_read, kept_child, is_asking, end_read, put_again, copy_there, copied_again, on_privatised, copy_cause, put_few, copy_visits}
use Rattle.bd_path.specs.Made.{AreKnown}
use Rattle.bd_copy.proofs.privatising.privatise.Goals as goal

pub fetch-requires : goal.fetch-requires
fetch-requires g c = kept_child (g.S.NodeStore.table c.args.store.now) c.args.parent.now c.args.place c.in-Some.id c.index-edges-place.result (child_read (g.S.NodeStore.table c.args.store.now) c.args.parent.now c.args.place c.in-Some.id c.deref.result.now c.edges-edges.result.now c.index-edges-place.result c.requires.can c.deref.ensures c.edges-edges.ensures c.index-edges-place.is c.in-Some.is)

pub copy_for-requires-clause-asking : goal.copy_for-requires-clause-asking
copy_for-requires-clause-asking g c = is_asking (g.S.NodeStore.table c.args.store.now) c.args.parent.now c.args.place c.in-Some.id c.index-edges-place.result (option_copied c.end_of-hi.result) (child_read (g.S.NodeStore.table c.args.store.now) c.args.parent.now c.args.place c.in-Some.id c.deref.result.now c.edges-edges.result.now c.index-edges-place.result c.requires.can c.deref.ensures c.edges-edges.ensures c.index-edges-place.is c.in-Some.is) (end_read c.args.parent.now.node.value c.deref.result.now c.args.place c.edges-edges.result.now (option_copied c.end_of-hi.result) c.deref.ensures c.edges-edges.ensures c.end_of-hi.ensures)

pub returns-in_err-copy-clause-few_visits : goal.returns-in_err-copy-clause-few_visits
returns-in_err-copy-clause-few_visits g c =
    copy_visits (g.S.NodeStore.table c.args.store.now) c.args.parent.now c.args.place c.index-edges-place.result c.in-Some.id c.in_ok-child.child c.deref-2.result.now (g.S.NodeStore.visit_count c.args.store.now) (g.S.NodeStore.visit_count c.copy_for.new.store)
    (child_read (g.S.NodeStore.table c.args.store.now) c.args.parent.now c.args.place c.in-Some.id c.deref.result.now c.edges-edges.result.now c.index-edges-place.result c.requires.can c.deref.ensures c.edges-edges.ensures c.index-edges-place.is c.in-Some.is) c.in_ok-child.ensures.id c.in_ok-child.ensures.fetched c.deref-2.ensures (omega (arith, c.fetch.ensures.visits, c.copy_for.ensures.few_visits))

pub put_copy-requires-clause-can : goal.put_copy-requires-clause-can
put_copy-requires-clause-can g c =
    put_again (g.S.NodeStore.table c.args.store.now) (g.S.NodeStore.table c.fetch.new.store) (g.S.NodeStore.table c.copy_for.new.store) c.args.parent.now c.args.place c.index-edges-place.result c.in-Some.id c.in_ok-child.child c.deref-2.result.now (option_copied c.end_of-hi.result) c.in_ok-copy.copy
    (record {
      read = child_read (g.S.NodeStore.table c.args.store.now) c.args.parent.now c.args.place c.in-Some.id c.deref.result.now c.edges-edges.result.now c.index-edges-place.result c.requires.can c.deref.ensures c.edges-edges.ensures c.index-edges-place.is c.in-Some.is;
      id_is = c.in_ok-child.ensures.id;
      fetched = c.in_ok-child.ensures.fetched;
      table_is = c.fetch.ensures.left.table;
      shown_is = c.deref-2.ensures;
      end_is = end_read c.args.parent.now.node.value c.deref.result.now c.args.place c.edges-edges.result.now (option_copied c.end_of-hi.result) c.deref.ensures c.edges-edges.ensures c.end_of-hi.ensures;
      copied = c.in_ok-copy.ensures.copied;
      own = c.in_ok-copy.ensures.own;
      bytes = c.copy_for.ensures.bytes;
    })
    (c.copy_for.ensures.left.table ∙ c.fetch.ensures.left.table)

pub put_copy-requires-clause-copied : goal.put_copy-requires-clause-copied
put_copy-requires-clause-copied g c = λ known sound.
    let was = g.met.S.NodeStore.reads_known c.args.store.now c.copy_for.new.store (g.met.S.NodeStore.reads_both c.args.store.now c.fetch.new.store c.copy_for.new.store c.fetch.ensures.left.read c.copy_for.ensures.left.read) known in
    let same = c.copy_for.ensures.left.kept (c.fetch.ensures.left.known was) ∙ c.fetch.ensures.left.kept was in
    let sound_was = sound_again (g.S.NodeStore.nodes c.copy_for.new.store) (g.S.NodeStore.nodes c.args.store.now) (g.S.NodeStore.table c.copy_for.new.store) (g.S.NodeStore.table c.args.store.now) (sym same) (sym (c.copy_for.ensures.left.table ∙ c.fetch.ensures.left.table)) sound in
    copied_again (g.S.NodeStore.nodes c.args.store.now) (g.S.NodeStore.nodes c.copy_for.new.store) (g.S.NodeStore.table c.args.store.now) c.args.parent.now c.args.place c.index-edges-place.result c.in_ok-child.child c.in_ok-copy.copy same
    (copy_there (g.S.NodeStore.nodes c.args.store.now) (g.S.NodeStore.nodes c.fetch.new.store) (g.S.NodeStore.table c.args.store.now) (g.S.NodeStore.table c.fetch.new.store) c.args.parent.now c.args.place c.index-edges-place.result c.in-Some.id c.in_ok-child.child c.deref-2.result.now (option_copied c.end_of-hi.result) c.in_ok-copy.copy
    (record {
      read = child_read (g.S.NodeStore.table c.args.store.now) c.args.parent.now c.args.place c.in-Some.id c.deref.result.now c.edges-edges.result.now c.index-edges-place.result c.requires.can c.deref.ensures c.edges-edges.ensures c.index-edges-place.is c.in-Some.is;
      id_is = c.in_ok-child.ensures.id;
      fetched = c.in_ok-child.ensures.fetched;
      table_is = c.fetch.ensures.left.table;
      shown_is = c.deref-2.ensures;
      end_is = end_read c.args.parent.now.node.value c.deref.result.now c.args.place c.edges-edges.result.now (option_copied c.end_of-hi.result) c.deref.ensures c.edges-edges.ensures c.end_of-hi.ensures;
      copied = c.in_ok-copy.ensures.copied;
      own = c.in_ok-copy.ensures.own;
      bytes = c.copy_for.ensures.bytes;
    })
    sound_was (c.fetch.ensures.left.kept was) (c.in_ok-child.ensures.contents was)
    (c.in_ok-copy.ensures.has (c.fetch.ensures.left.known was) (sound_again (g.S.NodeStore.nodes c.args.store.now) (g.S.NodeStore.nodes c.fetch.new.store) (g.S.NodeStore.table c.args.store.now) (g.S.NodeStore.table c.fetch.new.store) (c.fetch.ensures.left.kept was) c.fetch.ensures.left.table sound_was)))

pub returns-clause-made : goal.returns-clause-made
returns-clause-made g c = λ known sound.
    let same = c.copy_for.ensures.left.kept (c.fetch.ensures.left.known known) ∙ c.fetch.ensures.left.kept known in
    let table = c.copy_for.ensures.left.table ∙ c.fetch.ensures.left.table in
    on_privatised (g.S.NodeStore.nodes c.args.store.now) (g.S.NodeStore.nodes c.copy_for.new.store) (g.S.NodeStore.table c.args.store.now) (g.S.NodeStore.table c.copy_for.new.store) c.args.parent.now c.args.place c.index-edges-place.result c.in_ok-child.child c.in_ok-copy.copy (g.S.NodeStore.nodes c.put_copy.new.store) (g.S.NodeStore.table c.put_copy.new.store) c.put_copy.result
    (copy_there (g.S.NodeStore.nodes c.args.store.now) (g.S.NodeStore.nodes c.fetch.new.store) (g.S.NodeStore.table c.args.store.now) (g.S.NodeStore.table c.fetch.new.store) c.args.parent.now c.args.place c.index-edges-place.result c.in-Some.id c.in_ok-child.child c.deref-2.result.now (option_copied c.end_of-hi.result) c.in_ok-copy.copy
    (record {
      read = child_read (g.S.NodeStore.table c.args.store.now) c.args.parent.now c.args.place c.in-Some.id c.deref.result.now c.edges-edges.result.now c.index-edges-place.result c.requires.can c.deref.ensures c.edges-edges.ensures c.index-edges-place.is c.in-Some.is;
      id_is = c.in_ok-child.ensures.id;
      fetched = c.in_ok-child.ensures.fetched;
      table_is = c.fetch.ensures.left.table;
      shown_is = c.deref-2.ensures;
      end_is = end_read c.args.parent.now.node.value c.deref.result.now c.args.place c.edges-edges.result.now (option_copied c.end_of-hi.result) c.deref.ensures c.edges-edges.ensures c.end_of-hi.ensures;
      copied = c.in_ok-copy.ensures.copied;
      own = c.in_ok-copy.ensures.own;
      bytes = c.copy_for.ensures.bytes;
    })
    sound (c.fetch.ensures.left.kept known) (c.in_ok-child.ensures.contents known)
    (c.in_ok-copy.ensures.has (c.fetch.ensures.left.known known) (sound_again (g.S.NodeStore.nodes c.args.store.now) (g.S.NodeStore.nodes c.fetch.new.store) (g.S.NodeStore.table c.args.store.now) (g.S.NodeStore.table c.fetch.new.store) (c.fetch.ensures.left.kept known) c.fetch.ensures.left.table sound)))
    same table
    (c.put_copy.ensures.made (c.copy_for.ensures.left.known (c.fetch.ensures.left.known known)) (sound_again (g.S.NodeStore.nodes c.args.store.now) (g.S.NodeStore.nodes c.copy_for.new.store) (g.S.NodeStore.table c.args.store.now) (g.S.NodeStore.table c.copy_for.new.store) same table sound))

pub returns-clause-cause : goal.returns-clause-cause
returns-clause-cause g c =
    copy_cause (g.S.NodeStore.fault_count c.args.store.now) (g.S.NodeStore.fault_count c.copy_for.new.store) (g.S.NodeStore.fault_count c.put_copy.new.store) (g.S.NodeStore.last_failed c.put_copy.new.store) (g.S.NodeStore.bad c.put_copy.new.store) (AreKnown g.S.NodeStore c.args.store.now) (g.S.NodeStore.nodes c.args.store.now) (g.S.NodeStore.table c.args.store.now) (g.S.NodeStore.table c.fetch.new.store) (g.S.NodeStore.table c.copy_for.new.store)
    c.args.parent.now c.args.place c.index-edges-place.result c.in-Some.id c.in_ok-child.child c.deref-2.result.now (option_copied c.end_of-hi.result) c.in_ok-copy.copy c.put_copy.result (c.in_ok-copy.ensures.cause.kept ∙ c.in_ok-child.ensures.cause.kept)
    (record {
      read = child_read (g.S.NodeStore.table c.args.store.now) c.args.parent.now c.args.place c.in-Some.id c.deref.result.now c.edges-edges.result.now c.index-edges-place.result c.requires.can c.deref.ensures c.edges-edges.ensures c.index-edges-place.is c.in-Some.is;
      id_is = c.in_ok-child.ensures.id;
      fetched = c.in_ok-child.ensures.fetched;
      table_is = c.fetch.ensures.left.table;
      shown_is = c.deref-2.ensures;
      end_is = end_read c.args.parent.now.node.value c.deref.result.now c.args.place c.edges-edges.result.now (option_copied c.end_of-hi.result) c.deref.ensures c.edges-edges.ensures c.end_of-hi.ensures;
      copied = c.in_ok-copy.ensures.copied;
      own = c.in_ok-copy.ensures.own;
      bytes = c.copy_for.ensures.bytes;
    })
    (λ k. (copy_there (g.S.NodeStore.nodes c.args.store.now) (g.S.NodeStore.nodes c.fetch.new.store) (g.S.NodeStore.table c.args.store.now) (g.S.NodeStore.table c.fetch.new.store) c.args.parent.now c.args.place c.index-edges-place.result c.in-Some.id c.in_ok-child.child c.deref-2.result.now (option_copied c.end_of-hi.result) c.in_ok-copy.copy
    (record {
      read = child_read (g.S.NodeStore.table c.args.store.now) c.args.parent.now c.args.place c.in-Some.id c.deref.result.now c.edges-edges.result.now c.index-edges-place.result c.requires.can c.deref.ensures c.edges-edges.ensures c.index-edges-place.is c.in-Some.is;
      id_is = c.in_ok-child.ensures.id;
      fetched = c.in_ok-child.ensures.fetched;
      table_is = c.fetch.ensures.left.table;
      shown_is = c.deref-2.ensures;
      end_is = end_read c.args.parent.now.node.value c.deref.result.now c.args.place c.edges-edges.result.now (option_copied c.end_of-hi.result) c.deref.ensures c.edges-edges.ensures c.end_of-hi.ensures;
      copied = c.in_ok-copy.ensures.copied;
      own = c.in_ok-copy.ensures.own;
      bytes = c.copy_for.ensures.bytes;
    })
    k.1 (c.fetch.ensures.left.kept k.0) (c.in_ok-child.ensures.contents k.0)
    (c.in_ok-copy.ensures.has (c.fetch.ensures.left.known k.0) (sound_again (g.S.NodeStore.nodes c.args.store.now) (g.S.NodeStore.nodes c.fetch.new.store) (g.S.NodeStore.table c.args.store.now) (g.S.NodeStore.table c.fetch.new.store) (c.fetch.ensures.left.kept k.0) c.fetch.ensures.left.table k.1))))
    (c.copy_for.ensures.left.table ∙ c.fetch.ensures.left.table) c.put_copy.ensures.cause

pub returns-clause-few_visits : goal.returns-clause-few_visits
returns-clause-few_visits g c =
    let put : g.S.NodeStore.visit_count c.put_copy.new.store ≤ g.S.NodeStore.visit_count c.copy_for.new.store + 1 = put_few (g.S.NodeStore.visit_count c.copy_for.new.store) (g.S.NodeStore.visit_count c.put_copy.new.store) c.put_copy.result c.put_copy.ensures.visits c.put_copy.ensures.err_visits in
    copy_visits (g.S.NodeStore.table c.args.store.now) c.args.parent.now c.args.place c.index-edges-place.result c.in-Some.id c.in_ok-child.child c.deref-2.result.now (g.S.NodeStore.visit_count c.args.store.now) (g.S.NodeStore.visit_count c.put_copy.new.store)
    (child_read (g.S.NodeStore.table c.args.store.now) c.args.parent.now c.args.place c.in-Some.id c.deref.result.now c.edges-edges.result.now c.index-edges-place.result c.requires.can c.deref.ensures c.edges-edges.ensures c.index-edges-place.is c.in-Some.is) c.in_ok-child.ensures.id c.in_ok-child.ensures.fetched c.deref-2.ensures (omega (arith, put, c.fetch.ensures.visits, c.copy_for.ensures.few_visits))
