use Rattle.std.proofs.Common.{◌≡◌, ◌≢◌, Some, get_or, sym, subst, rules}
use Rattle.std.proofs.lemmas.List.Elements.{recursion_from_All, Contains-get_or}
use Rattle.std.proofs.lemmas.List.Sorted.{answers_always}
use Rattle.bd_table.specs.Entries.{entry_of}
use Rattle.bd_table.specs.declared.table.TableEntry.{TableEntry}
use Rattle.bd_table.proofs.EntryLemmas.{entry_found, no_entry}
use Rattle.bd_tally.proofs.Searching.{found_at, found_none}
use Rattle.bd_check.proofs.naming.entry_of.Goals as goal

-- the closure gives an entry's id
pub returns-in-Ok : goal.returns-in-Ok
returns-in-Ok c =
    let entries = c.args.entries.now in
    let place = c.in-Ok.place in
    let d : TableEntry = record { id = 0; refs = 0; slot = 0; level = 0 } in
    let by_id = c.in-Ok.ensures.position (λ (e : TableEntry). e.id) (answers_always _ _ _ (λ f a r g called. search rules)) in
    let own : (get_or entries place d).id ≡ c.args.id = found_at (λ (e : TableEntry). e.id) entries c.args.id place by_id d in
    sym (subst (λ i. entry_of entries i ≡ Some (get_or entries place d)) own (entry_found entries (get_or entries place d) c.requires (Contains-get_or entries place d c.in-Ok.ensures.bound)))

pub returns-in-Err : goal.returns-in-Err
returns-in-Err c =
    let entries = c.args.entries.now in
    let by_id = c.in-Err.ensures.position (λ (e : TableEntry). e.id) (answers_always _ _ _ (λ f a r g called. search rules)) in
    sym (no_entry entries c.args.id (recursion_from_All (λ (e : TableEntry). e.id ≢ c.args.id) entries (found_none (λ (e : TableEntry). e.id) entries c.args.id c.in-Err.field-0 c.requires by_id)))
