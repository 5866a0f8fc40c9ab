-- The way of a prefix, and what a graft leaves, are settled.
use Rattle.std.proofs.Common.{◌≡◌, ℕ, ◌+◌, ◌-◌, Bool, List, [], ◌∷◌, refl, sym, ap, subst, ◌∙◌, Option, None, Some, inl, inr, arith}
use Rattle.std.specs.Prelude.{slice_get}
use Rattle.std.proofs.lemmas.Option.{same_Some}
use Rattle.std.proofs.lemmas.Bool.{cases_lt}
use Rattle.bd_message.specs.declared.message.Message.{Message}
use Rattle.bd_node.specs.declared.node.Edge.{Edge}
use Rattle.bd_node.specs.declared.node.Node.{Node}
use Rattle.bd_node.specs.declared.node.Node.TheVariants.{Leaf, Inner}
use Rattle.bd_node.specs.Meaning.{Nodes}
use Rattle.bd_node.specs.Tables.{Table}
use Rattle.bd_resolve.specs.declared.following.Target.{Target}
use Rattle.bd_resolve.specs.declared.following.Followed.{Followed}
use Rattle.bd_resolve.specs.declared.following.Followed.TheVariants.{Here, Past}
use Rattle.bd_resolve.specs.Following.{covered, edge_target, Decides, NoneDecides, IsLed, LeadsTo}
use Rattle.bd_resolve.specs.Following.IsLed.{at_all, by_message, by_edge, at_several}
use Rattle.bd_graft.specs.Walking.{travelling, IsWay, fetched_on}
use Rattle.bd_graft.specs.Walking.IsWay.{ends, to_nothing, leads_on}
use Rattle.bd_graft.specs.Packing.{packs, overlaid}
use Rattle.bd_graft.specs.Looking.{waiting_in, IsAlreadyMade, looked_at, IsMadeOver}
use Rattle.bd_graft.specs.Looking.IsMadeOver.{all_made, none_made}
use Rattle.bd_graft.specs.Grafting.{IsGraftStep, IsWalkOf}

-- ---- one node

same_place : (es : List Edge) (buffer : List Message) (q : List ℕ) (p r : ℕ) (m o : Message) → Decides es buffer q p m → NoneDecides es buffer q (p + 1) → Decides es buffer q r o → NoneDecides es buffer q (r + 1) → p ≡ r
same_place es buffer q p r m o one after two later = elim (cases_lt p r) [
  | inl less ↦ absurd (after r o (omega arith) two)
  | inr most ↦ elim (cases_lt r p) [
    | inl more ↦ absurd (later p m (omega arith) one)
    | inr least ↦ omega arith
  ]
]

same_message : (buffer : List Message) (q : List ℕ) (p r : ℕ) (m o : Message) → p ≡ r → slice_get buffer p ≡ Some m → slice_get buffer r ≡ Some o → Past (p + 1) (covered m q) ≡ Past (r + 1) (covered o q)
same_message buffer q p r m o is one two =
    let same : m ≡ o = same_Some m o (sym one ∙ ap (λ (i : ℕ). slice_get buffer i) is ∙ two) in
    ap (λ (i : ℕ). Past (i + 1) (covered m q)) is ∙ ap (λ (x : Message). Past (r + 1) (covered x q)) same

same_edge : (q : List ℕ) (d e : Edge) → d ≡ e → Past d.seen (edge_target d q) ≡ Past e.seen (edge_target e q)
same_edge q d e is = ap (λ (x : Edge). Past x.seen (edge_target x q)) is

led_once : (es : List Edge) (buffer : List Message) (q : List ℕ) (f g : Followed) → IsLed es buffer q f → IsLed es buffer q g → f ≡ g
led_once es buffer q f g (at_all none is) (at_all none2 is2) = is ∙ sym is2
led_once es buffer q f g (at_all none is) (by_message p m some one after is2) = absurd (some none)
led_once es buffer q f g (at_all none is) (by_edge e some after one there is2) = absurd (some none)
led_once es buffer q f g (at_all none is) (at_several some after several is2) = absurd (some none)
led_once es buffer q f g (by_message p m some one after is) (at_all none is2) = absurd (some none)
led_once es buffer q f g (by_message p m some one after is) (by_message r o some2 two later is2) = is ∙ same_message buffer q p r m o (same_place es buffer q p r m o one after two later) one.here two.here ∙ sym is2
led_once es buffer q f g (by_message p m some one after is) (by_edge e some2 none single there is2) = absurd (none p m (omega arith) one)
led_once es buffer q f g (by_message p m some one after is) (at_several some2 none several is2) = absurd (none p m (omega arith) one)
led_once es buffer q f g (by_edge d some none single there is) (at_all nothing is2) = absurd (some nothing)
led_once es buffer q f g (by_edge d some none single there is) (by_message p m some2 one after is2) = absurd (none p m (omega arith) one)
led_once es buffer q f g (by_edge d some none single there is) (by_edge e some2 none2 single2 there2 is2) = is ∙ same_edge q d e (same_Some d e (sym there ∙ there2)) ∙ sym is2
led_once es buffer q f g (by_edge d some none single there is) (at_several some2 none2 several is2) = absurd (single several)
led_once es buffer q f g (at_several some none several is) (at_all nothing is2) = absurd (some nothing)
led_once es buffer q f g (at_several some none several is) (by_message p m some2 one after is2) = absurd (none p m (omega arith) one)
led_once es buffer q f g (at_several some none several is) (by_edge e some2 none2 single there is2) = absurd (single several)
led_once es buffer q f g (at_several some none several is) (at_several some2 none2 several2 is2) = is ∙ sym is2

leads_once : (n : Node) (q : List ℕ) (f g : Followed) → LeadsTo n q f → LeadsTo n q g → f ≡ g
leads_once (Leaf entries) q f g one two = one ∙ sym two
leads_once (Inner level es buffer) q f g one two = led_once es buffer q f g one two

found_once : (nodes : Nodes) (id : ℕ) (q : List ℕ) (n m : Node) (f g : Followed) → nodes id ≡ Some n → nodes id ≡ Some m → LeadsTo n q f → LeadsTo m q g → f ≡ g
found_once nodes id q n m f g there there2 one two = leads_once n q f g one (subst (λ (x : Node). LeadsTo x q g) (same_Some m n (sym there2 ∙ there)) two)

-- ---- the way

here_past : {A : Type 0} (newer : ℕ) (target : Option Target) → Here ≡ Past newer target → A
here_past {A} newer target e = (let no : ⊥ = cc in absurd no)

past_newer : (i j : ℕ) (o p : Option Target) → Past i o ≡ Past j p → i ≡ j
past_newer i j o p e = cc

past_target : (i j : ℕ) (o p : Option Target) → Past i o ≡ Past j p → o ≡ p
past_target i j o p e = cc

none_target : {A : Type 0} (target : Target) → None ≡ Some target → A
none_target {A} target e = (let no : ⊥ = cc in absurd no)

same_travel : (nodes : Nodes) (id : ℕ) (q : List ℕ) (n m : Node) (i j : ℕ) → nodes id ≡ Some n → nodes id ≡ Some m → i ≡ j → travelling n i q ≡ travelling m j q
same_travel nodes id q n m i j there there2 is = ap (λ (k : ℕ). travelling n k q) is ∙ ap (λ (x : Node). travelling x j q) (same_Some n m (sym there ∙ there2))

pub way_once : (nodes : Nodes) (id : ℕ) (q : List ℕ) (a b : List (List Message)) (e f : Option Target) → IsWay nodes id q a e → IsWay nodes id q b f → (a ≡ b) × (e ≡ f)
way_once nodes id q _ _ _ _ (ends _ _ n there one) (ends _ _ m there2 two) = (refl, refl)
way_once nodes id q _ _ _ _ (ends _ _ n there one) (to_nothing _ _ m j there2 two) = here_past j None (found_once nodes id q n m Here (Past j None) there there2 one two)
way_once nodes id q _ _ _ _ (ends _ _ n there one) (leads_on _ _ m j target more end there2 two way) = here_past j (Some target) (found_once nodes id q n m Here (Past j (Some target)) there there2 one two)
way_once nodes id q _ _ _ _ (to_nothing _ _ n i there one) (ends _ _ m there2 two) = here_past i None (found_once nodes id q m n Here (Past i None) there2 there two one)
way_once nodes id q _ _ _ _ (to_nothing _ _ n i there one) (to_nothing _ _ m j there2 two) =
    (ap (λ (ms : List Message). ms ∷ []) (same_travel nodes id q n m i j there there2 (past_newer i j None None (found_once nodes id q n m (Past i None) (Past j None) there there2 one two))), refl)
way_once nodes id q _ _ _ _ (to_nothing _ _ n i there one) (leads_on _ _ m j target more end there2 two way) =
    none_target target (past_target i j None (Some target) (found_once nodes id q n m (Past i None) (Past j (Some target)) there there2 one two))
way_once nodes id q _ _ _ _ (leads_on _ _ n i target more end there one way) (ends _ _ m there2 two) = here_past i (Some target) (found_once nodes id q m n Here (Past i (Some target)) there2 there two one)
way_once nodes id q _ _ _ _ (leads_on _ _ n i target more end there one way) (to_nothing _ _ m j there2 two) =
    none_target target (past_target j i None (Some target) (found_once nodes id q m n (Past j None) (Past i (Some target)) there2 there two one))
way_once nodes id q _ _ _ _ (leads_on _ _ n i target more end there one way) (leads_on _ _ m j other more2 end2 there2 two way2) =
    let same : Past i (Some target) ≡ Past j (Some other) = found_once nodes id q n m (Past i (Some target)) (Past j (Some other)) there there2 one two in
    let is : target ≡ other = same_Some target other (past_target i j (Some target) (Some other) same) in
    let below = way_once nodes target.child target.source more more2 end end2 way (subst (λ (x : Target). IsWay nodes x.child x.source more2 end2) (sym is) way2) in (
      ap (λ (ms : List Message). ms ∷ more) (same_travel nodes id q n m i j there there2 (past_newer i j (Some target) (Some other) same)) ∙ ap (λ (x : List (List Message)). travelling m j q ∷ x) below.0,
      below.1,
    )

-- ---- the graft

-- one node is found already
already_once : (nodes : Nodes) (t : Table) (end : Option Target) (groups : List (List Message)) (c d : ℕ) → IsAlreadyMade nodes t end groups c → IsAlreadyMade nodes t end groups d → c ≡ d
already_once nodes t end groups c d a b = same_Some c d (sym a.newest ∙ b.newest)

target_is : (a b : Target) → a.child ≡ b.child → a.source ≡ [] → b.source ≡ [] → a ≡ b
target_is a b child one two = ap (λ (i : ℕ). record { child = i; source = a.source }) child ∙ ap (λ (q : List ℕ). record { child = b.child; source = q }) (one ∙ sym two)

over_once : (nodes : Nodes) (t : Table) (end : Option Target) (groups : List (List Message)) (m n : List Node) (x y : Target) → IsMadeOver nodes t end groups m x → IsMadeOver nodes t end groups n y → (m ≡ n) × (x ≡ y)
over_once nodes t end groups m n x y (all_made none made target) (all_made none2 made2 target2) = (made ∙ sym made2, same_Some x y (sym target ∙ target2))
over_once nodes t end groups m n x y (all_made none made target) (none_made there source made2) = absurd (none y.child there)
over_once nodes t end groups m n x y (none_made there source made) (all_made none2 made2 target2) = absurd (none2 x.child there)
over_once nodes t end groups m n x y (none_made there source made) (none_made there2 source2 made2) = (made ∙ sym made2, target_is x y (already_once nodes t end groups x.child y.child there there2) source source2)

pub step_once : (nodes : Nodes) (t : Table) (s d : List ℕ) (keep : Bool) (new other : Nodes) (u v : Table) (a : IsGraftStep nodes t s d keep new u) (b : IsGraftStep nodes t s d keep other v) → (a.made ≡ b.made) × (a.target ≡ b.target)
step_once nodes t s d keep new other u v a b =
    let same = way_once nodes t.root s a.sent.travel b.sent.travel a.sent.end b.sent.end a.sent.way b.sent.way in
    over_once nodes t b.sent.end (overlaid b.sent.end (packs b.sent.travel)) a.made b.made a.target b.target
    (subst (λ (e : Option Target). IsMadeOver nodes t e (overlaid e (packs b.sent.travel)) a.made a.target) same.1
    (subst (λ (x : List (List Message)). IsMadeOver nodes t a.sent.end (overlaid a.sent.end (packs x)) a.made a.target) same.0 a.sent.over)) b.sent.over

pub walk_once : (nodes : Nodes) (t : Table) (s : List ℕ) (u : Table) (m n : ℕ) → IsWalkOf nodes t s u m → IsWalkOf nodes t s u n → m ≡ n
walk_once nodes t s u m n a b =
    let same = way_once nodes t.root s a.travel b.travel a.end b.end a.way b.way in
    a.visits_are
    ∙ ap (λ (x : List (List Message)). fetched_on t x a.end + looked_at (waiting_in nodes t) (overlaid a.end (packs x)) + (u.next - t.next)) same.0
    ∙ ap (λ (e : Option Target). fetched_on t b.travel e + looked_at (waiting_in nodes t) (overlaid e (packs b.travel)) + (u.next - t.next)) same.1
    ∙ sym b.visits_are
