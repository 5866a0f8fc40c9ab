-- Which counts of entries are wrong.
use Rattle.std.proofs.Common.{◌≡◌, ◌≢◌, ℕ, zero, suc, ◌-◌, ◌<◌, ◌≤◌, Bool, true, false, cond, ◌||◌, nat_lt, true≢false, List, [], ◌∷◌, length, get_or, map, refl, sym, ap, subst, ◌∙◌, Option, None, Some, IfSome, IfNone, arith}
use Rattle.std.specs.Prelude.{AllPairs}
use Rattle.std.proofs.lemmas.Bool.{le-ltb, ltb-false, or_parts, or_from}
use Rattle.std.proofs.lemmas.Option.{same_Some, none-some}
use Rattle.std.proofs.lemmas.List.{length-map, get_or-map}
use Rattle.std.proofs.lemmas.List.Elements.{All-nil, All-cons}
use Rattle.bd_table.specs.declared.table.TableEntry.{TableEntry}
use Rattle.bd_tally.specs.Counts.{AreRising, first_count, count_after, is_wrong, first_wrong}
use Rattle.bd_tally.specs.Seen.{AreRight, IsLeastWrong}
use Rattle.bd_tally.specs.declared.count.Count.{Count}
use Rattle.bd_tally.proofs.IdLemmas.{pairs_first, pairs_rest}

-- ---- one entry

right_count : (e : TableEntry) (n : ℕ) → is_wrong (count_after n (first_count e)) ≡ false → e.refs ≡ n
right_count e n right =
    let parts = or_parts (nat_lt e.refs n || false) (nat_lt 0 (e.refs - n)) right in
    let most : n ≤ e.refs = ltb-false e.refs n (or_parts (nat_lt e.refs n) false parts.0).0 in
    let least : e.refs - n ≤ 0 = ltb-false 0 (e.refs - n) parts.1 in
    omega (arith, most, least)

wrong_count : (e : TableEntry) (n : ℕ) → is_wrong (count_after n (first_count e)) ≡ true → e.refs ≢ n
wrong_count e n wrong same =
    let right : is_wrong (count_after n (first_count e)) ≡ false =
    or_from (nat_lt e.refs n || false) (nat_lt 0 (e.refs - n)) (or_from (nat_lt e.refs n) false (le-ltb e.refs n (omega (arith, same))) refl) (le-ltb 0 (e.refs - n) (omega (arith, same))) in
    true≢false (sym wrong ∙ right)

-- ---- rising ids

-- the ids of counts are those of their entries
pub counts_rise : (es : List TableEntry) → AllPairs (λ (e o : TableEntry). e.id < o.id) es → AreRising (map first_count es)
counts_rise es rising i j d up long =
    let none : TableEntry = record { id = 0; refs = 0; slot = 0; level = 0 } in
    let within : j < length es = omega (arith, length-map es first_count) in
    let first : (get_or (map first_count es) i d).id ≡ (get_or es i none).id = ap (λ (c : Count). c.id) (get_or-map first_count es i none d (omega arith)) in
    let second : (get_or (map first_count es) j d).id ≡ (get_or es j none).id = ap (λ (c : Count). c.id) (get_or-map first_count es j none d within) in
    let less : (get_or es i none).id < (get_or es j none).id = rising i j none up within in
    omega (arith, first, second, less)

module _ (named : ℕ → ℕ) where
  abbrev count_of : TableEntry → Count
  count_of e = count_after (named e.id) (first_count e)

  entries_rise : (es : List TableEntry) → AreRising (map count_of es) → AllPairs (λ (e o : TableEntry). e.id < o.id) es
  entries_rise es rising i j e up within =
      let d : Count = count_of e in
      let first : (get_or (map count_of es) i d).id ≡ (get_or es i e).id = ap (λ (c : Count). c.id) (get_or-map count_of es i e d (omega arith)) in
      let second : (get_or (map count_of es) j d).id ≡ (get_or es j e).id = ap (λ (c : Count). c.id) (get_or-map count_of es j e d within) in
      let less : (get_or (map count_of es) i d).id < (get_or (map count_of es) j d).id = rising i j d up (omega (arith, length-map es count_of)) in
      omega (arith, first, second, less)

  -- ---- all entries

  none_wrong : (es : List TableEntry) → first_wrong (map count_of es) ≡ None → AreRight named es
  none_wrong [] none = All-nil (λ (e : TableEntry). e.refs ≡ named e.id)
  none_wrong (e ∷ es) none = by (is_wrong (count_of e)) refl (none_wrong es) none
    where
      by : (b : Bool) → is_wrong (count_of e) ≡ b → (first_wrong (map count_of es) ≡ None → AreRight named es) → cond b (Some e.id) (first_wrong (map count_of es)) ≡ None → AreRight named (e ∷ es)
      by true is later said = absurd (none-some e.id (sym said))
      by false is later said = All-cons (λ (o : TableEntry). o.refs ≡ named o.id) e es (right_count e (named e.id) is) (later said)

  least_wrong : (es : List TableEntry) (id : ℕ) → AllPairs (λ (e o : TableEntry). e.id < o.id) es → first_wrong (map count_of es) ≡ Some id → IsLeastWrong named es id
  least_wrong [] id rising some = absurd (none-some id some)
  least_wrong (e ∷ es) id rising some = by (is_wrong (count_of e)) refl (least_wrong es id (pairs_rest (λ (a b : TableEntry). a.id < b.id) e es rising)) some
    where
      by : (b : Bool) → is_wrong (count_of e) ≡ b → (first_wrong (map count_of es) ≡ Some id → IsLeastWrong named es id) → cond b (Some e.id) (first_wrong (map count_of es)) ≡ Some id → IsLeastWrong named (e ∷ es) id
      by true is later here =
          let same : e.id ≡ id = same_Some e.id id here in
          record {
            entry = e;
            among = (zero, omega arith, refl);
            id_is = same;
            wrong = wrong_count e (named e.id) is;
            least = All-cons (λ (o : TableEntry). o.id < id → o.refs ≡ named o.id) e es
                (λ below. absurd (omega (arith, below, same)))
                (λ k d within below.
                let above : e.id < (get_or es k d).id = pairs_first (λ (a b : TableEntry). a.id < b.id) e es rising k d within in
                absurd (omega (arith, above, below, same)));
          }
      by false is later there =
          let rest : IsLeastWrong named es id = later there in
          record {
            entry = rest.entry;
            among = (suc rest.among.0, omega (arith, rest.among.1), rest.among.2);
            id_is = rest.id_is;
            wrong = rest.wrong;
            least = All-cons (λ (o : TableEntry). o.id < id → o.refs ≡ named o.id) e es (λ below. right_count e (named e.id) is) rest.least;
          }

  -- ---- what is found among the counts

  pub found_right : (es : List TableEntry) (cs : List Count) (found : Option ℕ) → cs ≡ map count_of es → found ≡ first_wrong cs → IfNone found (AreRight named es)
  found_right es cs None are is = none_wrong es (sym (ap first_wrong are) ∙ sym is)
  found_right es cs (Some id) are is = tt

  pub found_wrong : (es : List TableEntry) (cs : List Count) (found : Option ℕ) → AreRising cs → cs ≡ map count_of es → found ≡ first_wrong cs → IfSome found (IsLeastWrong named es)
  found_wrong es cs None rising are is = tt
  found_wrong es cs (Some id) rising are is = least_wrong es id (entries_rise es (subst AreRising are rising)) (sym (ap first_wrong are) ∙ sym is)
