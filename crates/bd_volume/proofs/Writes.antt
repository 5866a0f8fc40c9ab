-- Which blocks calls of a volume write.
use Rattle.std.proofs.Common.{◌≡◌, ◌+◌, inl, inr, List, Bool, Option, None, refl, sym, subst, ap, ◌∙◌, arith}
use Rattle.std.proofs.lemmas.Bool.{cases_eq}
use Rattle.bd_device.specs.Blocks.{Image}
use Rattle.bd_device.specs.Changes.{StaysBut}
use Rattle.bd_device.specs.declared.device.Device.{Ghosts}
use Rattle.bd_device.proofs.Changes.{stays_same, stays_both, stays_wider}
use Rattle.bd_super.specs.Superblocks.{other}
use Rattle.bd_super.specs.declared.superblock.Half.{Half}
use Rattle.bd_super.specs.declared.superblock.Super.{Super}
use Rattle.bd_pager.specs.Slots.{IsSpare}
use Rattle.bd_pager.specs.Pagers.{Paged}
use Rattle.bd_checkpoint.specs.Surviving.{IsOfHalfOrSpare}
use Rattle.bd_engine.specs.Engines.{EngineState, IsReadOn, OnlyNodesOn, WritesEarly}
use Rattle.bd_engine.specs.Writes.{IsPublishingOrSlot, IsPublishingOrSpare, WritesUnsaved, WritesOn}
use Rattle.bd_engine.proofs.Saving.{published}

module _ {D : Type 0} (g : Ghosts D) where
  -- ---- calls that make no checkpoint

  abbrev known_of : EngineState D → Option Image
  known_of e = g.contents e.pager.dev

  -- no more was written than slots that the last checkpoint doesn't hold
  pub writes_slots : (a b : EngineState D) → b.live ≡ a.live → b.pager.spare ≡ a.pager.spare → StaysBut (IsSpare a.pager.spare) (known_of a) (known_of b) → WritesOn g a b
  writes_slots a b live spare slots =
      let epoch : b.live.epoch ≡ a.live.epoch = ap (λ (s : Super). s.epoch) live in
      record {
        later = omega (arith, epoch);
        log = stays_wider (IsSpare a.pager.spare) IsPublishingOrSlot (known_of a) (known_of b) (λ i is. inr (omega (arith, is.2.0))) slots;
        none = λ same. record {
          live = live;
          spare = spare;
          slots = stays_wider (IsSpare a.pager.spare) (IsOfHalfOrSpare (other a.live.half) a.pager.spare) (known_of a) (known_of b) (λ i is. inr is) slots;
          going = λ on. slots;
        };
        once = λ is. absurd (omega (arith, epoch, is));
      }

  pub writes_none : (a : EngineState D) → WritesOn g a a
  writes_none a = writes_slots a a refl refl (stays_same (IsSpare a.pager.spare) (known_of a))

  kept_slots : (a b : EngineState D) → known_of b ≡ known_of a → StaysBut (IsSpare a.pager.spare) (known_of a) (known_of b)
  kept_slots a b kept = subst (λ (o : Option Image). StaysBut (IsSpare a.pager.spare) (known_of a) o) (sym kept) (stays_same (IsSpare a.pager.spare) (known_of a))

  pub writes_read : (a b : EngineState D) → IsReadOn g a b → WritesOn g a b
  writes_read a b h =
      writes_slots a b (ap (λ (e : EngineState D). e.live) h.rest) (ap (λ (p : Paged D). p.spare) h.read.rest) (kept_slots a b h.read.device.kept)

  pub writes_nodes : (a b : EngineState D) → OnlyNodesOn g a b → WritesOn g a b
  writes_nodes a b h = writes_slots a b (ap (λ (e : EngineState D). e.live) h.rest) h.keeps.spare (kept_slots a b h.keeps.device.kept)

  pub writes_early : (a b : EngineState D) → WritesEarly g a b → WritesOn g a b
  writes_early a b h = writes_slots a b (ap (λ (e : EngineState D). e.live) h.rest) (ap (λ (p : Paged D). p.spare) h.pager) h.slots

  -- a log in which a record more waits
  pub writes_logged : (a b d : EngineState D) → WritesOn g a b → d.pager ≡ b.pager → d.live ≡ b.live → d.stop ≡ b.stop → WritesOn g a d
  writes_logged a b d h pager live stop =
      let epoch : d.live.epoch ≡ b.live.epoch = ap (λ (s : Super). s.epoch) live in
      let known : known_of d ≡ known_of b = ap (λ (p : Paged D). g.contents p.dev) pager in
      let spare : d.pager.spare ≡ b.pager.spare = ap (λ (p : Paged D). p.spare) pager in
      record {
        later = omega (arith, epoch, h.later);
        log = subst (λ (o : Option Image). StaysBut IsPublishingOrSlot (known_of a) o) (sym known) h.log;
        none = λ same.
            let n : WritesUnsaved g a b = h.none (sym epoch ∙ same) in
            record {
              live = live ∙ n.live;
              spare = spare ∙ n.spare;
              slots = subst (λ (o : Option Image). StaysBut (IsOfHalfOrSpare (other a.live.half) a.pager.spare) (known_of a) o) (sym known) n.slots;
              going = λ on. subst (λ (o : Option Image). StaysBut (IsSpare a.pager.spare) (known_of a) o) (sym known) (n.going (sym stop ∙ on));
            };
        once = λ is.
            subst (λ (o : Option Image). StaysBut (IsPublishingOrSpare a.pager.spare d.pager.spare) (known_of a) o) (sym known)
            (subst (λ (s : List Bool). StaysBut (IsPublishingOrSpare a.pager.spare s) (known_of a) (known_of b)) (sym spare) (h.once (sym epoch ∙ is)));
      }

  -- ---- one after the other

  -- of two calls neither made a checkpoint
  none_then : (a b d : EngineState D) → b.stop ≡ None → WritesUnsaved g a b → WritesUnsaved g b d → WritesUnsaved g a d
  none_then a b d on p q =
      let half : b.live.half ≡ a.live.half = ap (λ (s : Super). s.half) p.live in
      let first : StaysBut (IsSpare a.pager.spare) (known_of a) (known_of b) = p.going on in
      record {
        live = q.live ∙ p.live;
        spare = q.spare ∙ p.spare;
        slots = stays_both (IsOfHalfOrSpare (other a.live.half) a.pager.spare) (known_of a) (known_of b) (known_of d)
            (stays_wider (IsSpare a.pager.spare) (IsOfHalfOrSpare (other a.live.half) a.pager.spare) (known_of a) (known_of b) (λ i is. inr is) first)
            (subst (λ (h : Half). StaysBut (IsOfHalfOrSpare (other h) a.pager.spare) (known_of b) (known_of d)) half
            (subst (λ (s : List Bool). StaysBut (IsOfHalfOrSpare (other b.live.half) s) (known_of b) (known_of d)) p.spare q.slots));
        going = λ off. stays_both (IsSpare a.pager.spare) (known_of a) (known_of b) (known_of d) first
            (subst (λ (s : List Bool). StaysBut (IsSpare s) (known_of b) (known_of d)) p.spare (q.going off));
      }

  -- the second one alone
  second_then : (a b d : EngineState D) → b.stop ≡ None → WritesUnsaved g a b → StaysBut (IsPublishingOrSpare b.pager.spare d.pager.spare) (known_of b) (known_of d) → StaysBut (IsPublishingOrSpare a.pager.spare d.pager.spare) (known_of a) (known_of d)
  second_then a b d on p h =
      stays_both (IsPublishingOrSpare a.pager.spare d.pager.spare) (known_of a) (known_of b) (known_of d)
      (stays_wider (IsSpare a.pager.spare) (IsPublishingOrSpare a.pager.spare d.pager.spare) (known_of a) (known_of b) (λ i is. inr (inl is)) (p.going on))
      (subst (λ (s : List Bool). StaysBut (IsPublishingOrSpare s d.pager.spare) (known_of b) (known_of d)) p.spare h)

  -- the first one alone
  first_then : (a b d : EngineState D) → StaysBut (IsPublishingOrSpare a.pager.spare b.pager.spare) (known_of a) (known_of b) → WritesUnsaved g b d → StaysBut (IsPublishingOrSpare a.pager.spare d.pager.spare) (known_of a) (known_of d)
  first_then a b d h q =
      let wide : StaysBut (IsPublishingOrSpare a.pager.spare b.pager.spare) (known_of b) (known_of d) = stays_wider (IsOfHalfOrSpare (other b.live.half) b.pager.spare) (IsPublishingOrSpare a.pager.spare b.pager.spare) (known_of b) (known_of d) (λ i is. elim is [
        | inl mark ↦ inl (published b.live.half i mark)
        | inr slot ↦ inr (inr slot)
      ]) q.slots in
      subst (λ (s : List Bool). StaysBut (IsPublishingOrSpare a.pager.spare s) (known_of a) (known_of d)) (sym q.spare)
      (stays_both (IsPublishingOrSpare a.pager.spare b.pager.spare) (known_of a) (known_of b) (known_of d) h wide)

  pub writes_then : (a b d : EngineState D) → b.stop ≡ None → WritesOn g a b → WritesOn g b d → WritesOn g a d
  writes_then a b d on p q = record {
    later = omega (arith, p.later, q.later);
    log = stays_both IsPublishingOrSlot (known_of a) (known_of b) (known_of d) p.log q.log;
    none = λ same.
        let first : b.live.epoch ≡ a.live.epoch = omega (arith, p.later, q.later, same) in
        none_then a b d on (p.none first) (q.none (omega (arith, first, same)));
    once = λ is. elim (cases_eq b.live.epoch a.live.epoch) [
      | inl first ↦ second_then a b d on (p.none first) (q.once (omega (arith, first, is)))
      | inr more ↦
          let one : b.live.epoch ≡ a.live.epoch + 1 = omega (arith, p.later, q.later, is, more) in
          first_then a b d (p.once one) (q.none (omega (arith, one, is)))
    ];
  }
