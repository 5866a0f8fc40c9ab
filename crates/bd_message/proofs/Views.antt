-- A list of entries as a map.
use Rattle.std.proofs.Common.{◌≡◌, ℕ, List, sym, ap, subst, ◌∙◌, Option}
use Rattle.std.specs.FinMap.{FinMap, get, from_entries, get-from_entries}
use Rattle.std.proofs.lemmas.Cmp.{nat_list_cmp_total}
use Rattle.std.specs.List.{AllZip}
use Rattle.std.proofs.lemmas.List.Elements.{same_from_all_zip}
use Rattle.bd_keys.specs.Keys.{key_cmp}
use Rattle.bd_message.specs.KeyMaps.{At, IsNextEntry}
use Rattle.bd_message.proofs.Finds.{Entry, found}

abbrev pub Map : Type 0
Map = FinMap key_cmp (List ℕ)

-- the map has what is found in the list
pub seen : (es : List Entry) (k : List ℕ) → get (from_entries {R = key_cmp} es) k ≡ found k es
seen es k = get-from_entries nat_list_cmp_total es k

pub seen_as : (es : List Entry) (m : Map) (k : List ℕ) → from_entries es ≡ m → found k es ≡ get m k
seen_as es m k is = sym (seen es k) ∙ ap (λ (n : Map). get n k) is

pub seen_all : (es : List Entry) (m : Map) → from_entries es ≡ m → ◌≡◌ {A = At} (λ k. found k es) (λ k. get m k)
seen_all es m is = λ i k. seen_as es m k is i

pub next_seen : (es shown : List Entry) (m : Map) (from within : List ℕ) (given next : Option (List ℕ × List ℕ)) → shown ≡ es → from_entries es ≡ m → given ≡ next
    → IsNextEntry (λ k. found k shown) from within next → IsNextEntry (λ k. get m k) from within given
next_seen es shown m from within given next same is given_is least =
    let at_of : List Entry → At = λ xs k. found k xs in
    subst (λ (at : At). IsNextEntry at from within given) (ap at_of same ∙ seen_all es m is)
    (subst (λ (r : Option (List ℕ × List ℕ)). IsNextEntry (λ k. found k shown) from within r) (sym given_is) least)

-- clones of entries are the entries
pub cloned_entries : (es clones : List Entry) → AllZip (λ (x y : Entry). (y.0 ≡ x.0) × (y.1 ≡ x.1)) es clones → clones ≡ es
cloned_entries es clones h = same_from_all_zip (λ (x y : Entry). (y.0 ≡ x.0) × (y.1 ≡ x.1)) es clones h (λ x y same i. (same.0 i, same.1 i))
