-- What a graft leaves of a store.
use Rattle.std.proofs.Common.{◌≡◌, ℕ, ◌+◌, ◌-◌, ◌≤◌, List, Bool, refl, sym, ap, subst, ◌∙◌, arith, Result, Ok, Err, OnOk}
use Rattle.bd_limits.specs.Limits.{buffer_limit, graft_size}
use Rattle.bd_message.specs.declared.fault.MapFault.{MapFault}
use Rattle.bd_message.specs.KeyMaps.{HasMapCause, IsGrafted}
use Rattle.bd_message.proofs.Causes.{cause_after}
use Rattle.bd_node.specs.declared.store.NodeStore.{Ghosts}
use Rattle.bd_node.specs.Frames.{OfSound, OnlyReads, Stays}
use Rattle.bd_node.specs.Meaning.{Nodes}
use Rattle.bd_node.specs.Tables.{Table, IsSound, root_at}
use Rattle.bd_graft.specs.Walking.{HasRoot}
use Rattle.bd_graft.specs.Grafting.{IsGrown, IsGraftStep, AreOthersSame, IsGraftMade, IsGraftCall, IsWornForGraft}

pub room_is : (size : ℕ) → graft_size ≤ buffer_limit - size → size + graft_size ≤ buffer_limit
room_is size fits = omega arith

pub made_of : {S T E : Type 0} (g : Ghosts S) (s d : List ℕ) (keep : Bool) (old new : S) (r : Result T E)
    → OfSound g old (OnOk r (IsGrafted (root_at (g.nodes old) (g.table old)) s d keep (root_at (g.nodes new) (g.table new))))
    → OfSound g old (OnOk r (IsSound (g.nodes new) (g.table new)))
    → OfSound g old (OnOk r (IsGraftStep (g.nodes old) (g.table old) s d keep (g.nodes new) (g.table new)))
    → OfSound g old (OnOk r (AreOthersSame (g.nodes old) (g.table old) (g.nodes new) (g.table new)))
    → OnOk r (IsGrown (g.table old) (g.table new)) → OnOk r (IsGraftMade g s d keep old new)
made_of g s d keep old new (Ok x) grafted sound step others table = record { grafted = grafted; sound = sound; step = step; others = others; table = table }
made_of g s d keep old new (Err e) grafted sound step others table = tt

-- what holds of sound nodes holds before reads that leave them
pub of_reads : {S : Type 0} (g : Ghosts S) (old mid : S) (P : Nodes → Table → Type 0) → OnlyReads g old mid → OfSound g mid (P (g.nodes mid) (g.table mid)) → OfSound g old (P (g.nodes old) (g.table old))
of_reads g old mid P left h known sound =
    subst (λ (u : Table). P (g.nodes old) u) left.table
    (subst (λ (f : Nodes). P f (g.table mid)) (left.kept known)
    (h (left.known known) (subst (λ (u : Table). IsSound (g.nodes mid) u) (sym left.table) (subst (λ (f : Nodes). IsSound f (g.table old)) (sym (left.kept known)) sound))))

-- a graft after reads is one
pub made_after : {S : Type 0} (g : Ghosts S) (s d : List ℕ) (keep : Bool) (old mid new : S) → OnlyReads g old mid → IsGraftMade g s d keep mid new → IsGraftMade g s d keep old new
made_after g s d keep old mid new left h = record {
  grafted = of_reads g old mid (λ f u. IsGrafted (root_at f u) s d keep (root_at (g.nodes new) (g.table new))) left h.grafted;
  sound = of_reads g old mid (λ f u. IsSound (g.nodes new) (g.table new)) left h.sound;
  step = of_reads g old mid (λ f u. IsGraftStep f u s d keep (g.nodes new) (g.table new)) left h.step;
  others = of_reads g old mid (λ f u. AreOthersSame f u (g.nodes new) (g.table new)) left h.others;
  table = subst (λ (u : Table). IsGrown u (g.table new)) left.table h.table;
}

-- two reads, one after the other
pub reads_both : {S : Type 0} (g : Ghosts S) (a b c : S) → ((x y z : S) → g.reads x y → g.reads y z → g.reads x z) → OnlyReads g a b → OnlyReads g b c → OnlyReads g a c
reads_both g a b c both one two = record {
  table = two.table ∙ one.table;
  known = λ k. two.known (one.known k);
  kept = λ k. two.kept (one.known k) ∙ one.kept k;
  read = both a b c one.read two.read;
  same_loans = two.same_loans ∙ one.same_loans;
}

-- a call after reads leaves what each call does
pub stays_after : {S : Type 0} (g : Ghosts S) (a b c : S) → ((x y : S) → g.reads x y → g.keeps x y) → ((x y z : S) → g.keeps x y → g.keeps y z → g.keeps x z) → OnlyReads g a b → Stays g b c → Stays g a c
stays_after g a b c keep both one two = record {
  known = λ k. two.known (one.known k);
  beside = both a b c (keep a b one.read) two.beside;
  same_loans = two.same_loans ∙ one.same_loans;
}

-- what holds of sound nodes holds after reads that leave them
pub on_reads : {S : Type 0} (g : Ghosts S) (old mid : S) (P : Nodes → Table → Type 0) → ((x y : S) → g.reads x y → g.is_known y → g.is_known x) → OnlyReads g old mid → OfSound g old (P (g.nodes old) (g.table old)) → OfSound g mid (P (g.nodes mid) (g.table mid))
on_reads g old mid P back left h known sound =
    let was : g.is_known old = back old mid left.read known in
    let same : g.nodes mid ≡ g.nodes old = left.kept was in
    subst (λ (u : Table). P (g.nodes mid) u) (sym left.table)
    (subst (λ (f : Nodes). P f (g.table old)) (sym same)
    (h was (subst (λ (u : Table). IsSound (g.nodes old) u) left.table (subst (λ (f : Nodes). IsSound f (g.table mid)) same sound))))

pub root_on : {S : Type 0} (g : Ghosts S) (old mid : S) → ((x y : S) → g.reads x y → g.is_known y → g.is_known x) → OnlyReads g old mid → HasRoot (g.is_known old) (g.nodes old) (g.table old) → HasRoot (g.is_known mid) (g.nodes mid) (g.table mid)
root_on g old mid back left h = subst (λ (u : Table). HasRoot (g.is_known mid) (g.nodes mid) u) (sym left.table) (record {
  node = h.node;
  is = h.is;
  there = λ k. (let was : g.is_known old = back old mid left.read k in ap (λ (f : Nodes). f (g.table old).root) (left.kept was) ∙ h.there was);
})

-- ---- calls

-- a call that fails before anything was done
pub not_called : {S T E : Type 0} (g : Ghosts S) (s d : List ℕ) (keep : Bool) (old new : S) (e : E) → new ≡ old → g.reads old old → g.keeps old old → IsGraftCall {T = T} g s d keep old new (Err e)
not_called {S} {T} g s d keep old new e same reads keeps = subst (λ (x : S). IsGraftCall {T = T} g s d keep old x (Err e)) (sym same) (record {
  made = tt;
  visits = tt;
  stays = record { known = λ k. k; beside = keeps; same_loans = refl };
  err = record { table = refl; known = λ k. k; kept = λ k. refl; read = reads; same_loans = refl };
  err_visits = refl;
})

-- why a call after reads failed
pub err_cause : {T U : Type 0} (before mid now : ℕ) (last : Bool) (bad : ℕ → Type 0) (t u : Table) (e : MapFault) → mid ≡ before → u ≡ t → HasMapCause {T = T} mid now last bad (IsWornForGraft u) (Err e) → HasMapCause {T = U} before now last bad (IsWornForGraft t) (Err e)
err_cause {T} {U} before mid now last bad t u e same table h =
    let there : HasMapCause {T = T} before now last bad (IsWornForGraft t) (Err e) =
    cause_after before mid now last bad (IsWornForGraft t) (Err e) same (subst (λ (x : Table). HasMapCause {T = T} mid now last bad (IsWornForGraft x) (Err e)) table h) in
    record { later = there.later; kept = tt; stays = there.stays; failed = there.failed }
