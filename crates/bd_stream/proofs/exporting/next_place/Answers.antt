use Rattle.std.proofs.Common.{◌≡◌, ◌++◌, ◌∷◌, [], List, ℕ, None, Some, Option, sym, ◌∙◌, ap}
use Rattle.bd_names.specs.Names.{path_of}
use Rattle.bd_stream.specs.Importing.{Path, short_path}
use Rattle.bd_stream.proofs.PlaceLemmas.{one_name, long_below, short_same}
use Rattle.bd_stream.proofs.exporting.next_place.Goals as goal

-- what is read of a name is the path of it alone
named : (name bytes : List ℕ) (found : Option Path) → bytes ≡ name → path_of (47 ∷ name) ≡ Some (name ∷ []) → found ≡ path_of (47 ∷ bytes) → found ≡ Some (name ∷ [])
named name bytes found same one is = is ∙ ap (λ (l : List ℕ). path_of (47 ∷ l)) same ∙ one

pub returns-in_default : goal.returns-in_default
returns-in_default c =
    let one = named c.args.name.now c.as_bytes.result.now c.in_ok-one.field-0 c.as_bytes.ensures.bytes (one_name c.args.name.now c.as_bytes.ensures.name) c.in_ok-one.ensures in
    absurd (cc (one, c.in_default.is))

pub returns-in_default-2 : goal.returns-in_default-2
returns-in_default-2 c =
    let name = c.args.name.now in
    let one = named name c.as_bytes.result.now c.in_ok-one.field-0 c.as_bytes.ensures.bytes (one_name name c.as_bytes.ensures.name) c.in_ok-one.ensures in
    let is : c.in-Some.one ≡ name ∷ [] = cc (one, c.in-Some.is) in
    let none : short_path (c.args.around.now ++ name ∷ []) ≡ None = ap (λ (p : Path). short_path (c.args.around.now ++ p)) (sym is) ∙ sym c.in_ok-below.ensures ∙ c.in_default-2.is in
    long_below c.args.top.now (c.args.around.now ++ name ∷ []) none

pub returns-in-Some-3 : goal.returns-in-Some-3
returns-in-Some-3 c =
    let name = c.args.name.now in
    let one = named name c.as_bytes.result.now c.in_ok-one.field-0 c.as_bytes.ensures.bytes (one_name name c.as_bytes.ensures.name) c.in_ok-one.ensures in
    let is : c.in-Some.one ≡ name ∷ [] = cc (one, c.in-Some.is) in
    let there : short_path (c.args.around.now ++ name ∷ []) ≡ Some c.in-Some-2.below = ap (λ (p : Path). short_path (c.args.around.now ++ p)) (sym is) ∙ sym c.in_ok-below.ensures ∙ c.in-Some-2.is in
    let below = short_same (c.args.around.now ++ name ∷ []) c.in-Some-2.below there in
    let found : short_path (c.args.top.now ++ (c.args.around.now ++ name ∷ [])) ≡ Some c.in-Some-3.path = ap (λ (p : Path). short_path (c.args.top.now ++ p)) below ∙ sym c.in_ok-path.ensures ∙ c.in-Some-3.is in
    (sym below, sym (short_same (c.args.top.now ++ (c.args.around.now ++ name ∷ [])) c.in-Some-3.path found), found)

pub returns : goal.returns
returns c =
    let name = c.args.name.now in
    let one = named name c.as_bytes.result.now c.in_ok-one.field-0 c.as_bytes.ensures.bytes (one_name name c.as_bytes.ensures.name) c.in_ok-one.ensures in
    let is : c.in-Some.one ≡ name ∷ [] = cc (one, c.in-Some.is) in
    let there : short_path (c.args.around.now ++ name ∷ []) ≡ Some c.in-Some-2.below = ap (λ (p : Path). short_path (c.args.around.now ++ p)) (sym is) ∙ sym c.in_ok-below.ensures ∙ c.in-Some-2.is in
    let below = short_same (c.args.around.now ++ name ∷ []) c.in-Some-2.below there in
    ap (λ (p : Path). short_path (c.args.top.now ++ p)) below ∙ sym c.in_ok-path.ensures ∙ c.in-None.is
