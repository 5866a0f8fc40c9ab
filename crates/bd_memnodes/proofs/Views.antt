-- What a store is seen as, and what it keeps.
use Rattle.std.proofs.Common.{◌≡◌, ℕ, refl, sym, subst, [], Result, Ok, Err, OnErr}
use Rattle.std.specs.Prelude.{⊤}
use Rattle.bd_node.specs.Meaning.{Nodes}
use Rattle.bd_node.specs.Stores.{OnlyReadsBy}
use Rattle.bd_node.specs.Tables.{Table}
use Rattle.bd_memnodes.specs.declared.kept.Kept.{Kept}
use Rattle.bd_memnodes.specs.Maps.{nodes_in}
use Rattle.bd_memnodes.specs.Stored.{table_in}
use Rattle.bd_memnodes.specs.Carried.{SameKept}
use Rattle.bd_memnodes.specs.Seen.{Seen, SameNodes, nodes_of, table, seen}
use Rattle.bd_memnodes.proofs.Same.{same_nodes, same_table}

-- what holds of what is kept holds of what is seen
pub of_kept : (P : Nodes → Table → Type 0) (kept : Kept) (visits : ℕ) (now : Seen) → seen kept visits ≡ now → P (nodes_in kept.nodes) (table_in kept) → P (nodes_of now) (table now)
of_kept P kept visits now is p = subst (λ (s : Seen). P (nodes_of s) (table s)) is p

pub to_kept : (P : Nodes → Table → Type 0) (kept : Kept) (visits : ℕ) (now : Seen) → seen kept visits ≡ now → P (nodes_of now) (table now) → P (nodes_in kept.nodes) (table_in kept)
to_kept P kept visits now is p = subst (λ (s : Seen). P (nodes_of s) (table s)) (sym is) p

pub on_err : {T E : Type 0} (P Q : Type 0) (r : Result T E) → OnErr r P → (P → Q) → OnErr r Q
on_err P Q (Ok x) p f = tt
on_err P Q (Err e) p f = f p

-- a call that failed did no more than read
pub err_reads : {T E : Type 0} (old new : Kept) (visits later : ℕ) (was now : Seen) (r : Result T E) → seen old visits ≡ was → seen new later ≡ now → OnErr r (SameKept old new) → OnErr r (OnlyReadsBy (λ (_ : Seen). ⊤) nodes_of table SameNodes (λ (_ : Seen). []) was now)
err_reads old new visits later was now r from to h =
    on_err (SameKept old new) (OnlyReadsBy (λ (_ : Seen). ⊤) nodes_of table SameNodes (λ (_ : Seen). []) was now) r h
    (λ same.
    subst (λ (s : Seen). OnlyReadsBy (λ (_ : Seen). ⊤) nodes_of table SameNodes (λ (_ : Seen). []) s now) from
    (subst (λ (s : Seen). OnlyReadsBy (λ (_ : Seen). ⊤) nodes_of table SameNodes (λ (_ : Seen). []) (seen old visits) s) to
    (record {
      table = same_table old new same;
      known = λ known. known;
      kept = λ known. same_nodes old new same;
      read = record { nodes = same_nodes old new same; table = same_table old new same };
      same_loans = refl;
    })))
