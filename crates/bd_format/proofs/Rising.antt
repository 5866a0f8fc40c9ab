-- Entries of which each one's key is below the next one's.
use Rattle.std.proofs.Common.{ℕ, ◌+◌, ◌<◌, List, [], ◌∷◌, length, drop, get_or, sym, subst}
use Rattle.std.specs.List.{AllByRecursion}
use Rattle.std.proofs.lemmas.Cmp.{nat_list_cmp_total as total}
use Rattle.std.proofs.lemmas.List.{drop_more}
use Rattle.bd_keys.specs.Keys.{IsBelow}
use Rattle.bd_node.specs.declared.node.Entry.{Entry}
use Rattle.bd_node.specs.Shape.{IsRising}

-- the key is below the first one's, and so on
abbrev pub IsChain : List ℕ → List Entry → Type 0
IsChain k [] = Unit {0}
IsChain k (e ∷ es) = IsBelow k e.key × IsChain e.key es

-- one less
chain_shorter : (k : List ℕ) (e : Entry) (es : List Entry) → IsChain k (e ∷ es) → IsChain k es
chain_shorter k e [] h = tt
chain_shorter k e (f ∷ es) h = (total.trans k e.key f.key h.0 h.1.0, h.1.1)

-- then it is below all of them
below_all : (k : List ℕ) (es : List Entry) → IsChain k es → AllByRecursion (λ (f : Entry). IsBelow k f.key) es
below_all k [] h = tt
below_all k (e ∷ es) h = (h.0, below_all k es (chain_shorter k e es h))

-- the entries rise
pub chain_rises : (e : Entry) (es : List Entry) → IsChain e.key es → IsRising (e ∷ es)
chain_rises e [] h = (tt, tt)
chain_rises e (f ∷ es) h = (below_all e.key (f ∷ es) h, chain_rises f es h.1)

pub rising_chain : (e : Entry) (es : List Entry) → IsRising (e ∷ es) → IsChain e.key es
rising_chain e [] h = tt
rising_chain e (f ∷ es) h = (h.0.0, rising_chain f es h.1)

-- one more
pub chain_more : (k : List ℕ) (es : List Entry) (i : ℕ) (d : Entry) → i < length es → IsChain k (drop i es) → IsBelow k (get_or es i d).key × IsChain (get_or es i d).key (drop (i + 1) es)
chain_more k es i d lt h = subst (IsChain k) (drop_more es i d lt) h

pub chain_from : (k : List ℕ) (es : List Entry) (i : ℕ) (d : Entry) → i < length es → IsBelow k (get_or es i d).key → IsChain (get_or es i d).key (drop (i + 1) es) → IsChain k (drop i es)
chain_from k es i d lt here rest = subst (IsChain k) (sym (drop_more es i d lt)) (here, rest)
