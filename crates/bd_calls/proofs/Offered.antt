-- The call that the words make, where the program does it.
use Rattle.std.proofs.Common.{◌≡◌, ◌∙◌, Bool, true, false, cond, ℕ, List, refl, sym, ap, subst, true≢false, Option, None, Some, Result, is_some, option_map}
use Rattle.std.specs.Prelude.{IfErr, IfOk, IfSome, IsSomeAnd, ok_or}
use Rattle.std.specs.Option.{option_and_then}
use Rattle.bd_words.specs.Words.{Call, HasForm, call_of}
use Rattle.bd_words.specs.declared.words.WordsFault.{WordsFault}
use Rattle.bd_words.specs.declared.words.WordsFault.TheVariants.{Refused}
use Rattle.bd_words.proofs.Forms.{form_is_call}
use Rattle.bd_calls.specs.Offered.{IsTaskWithin, IsUnoffered, call_at, is_offered, offer, offered}
use Rattle.bd_calls.specs.declared.task.Task.{Task}

-- ---- what is said of the call that the words make

by_offer : (P : Call → Type 0) (call : Call) (b : Bool) → is_offered call ≡ b → (is_offered call ≡ true → P call) → IfSome (cond b (Some call) None) P
by_offer P call true is h = h is
by_offer P call false is h = tt

-- what holds of each call that the program does holds of the one that the words make
pub for_offered : (P : Call → Type 0) (words : List (List ℕ)) → ((call : Call) → is_offered call ≡ true → P call) → IfSome (offered words) P
unfolding offered
for_offered P words h = go (call_of words)
  where
    go : (o : Option Call) → IfSome (option_and_then offer o) P
    go None = tt
    go (Some call) = by_offer P call (is_offered call) refl (h call)

-- the words of a form of a call that the program does aren't refused
pub never_refused : (words : List (List ℕ)) (call : Call) → is_offered call ≡ true → HasForm call words → offered words ≡ None → ⊥
unfolding offered
never_refused words call is form none =
    let made : offer call ≡ None = ap (option_and_then offer) (sym (form_is_call call words form)) ∙ none in
    absurd (true≢false (ap is_some (sym (ap (λ (b : Bool). cond b (Some call) None) is) ∙ made)))

-- ---- the task that the words ask for

pub offers : (words : List (List ℕ)) (read : Call) (o : Option Task) (r : Result Task WordsFault) → call_of words ≡ Some read → option_map call_at o ≡ offer read
    → r ≡ ok_or o Refused → IfOk r (λ task. offered words ≡ Some (call_at task))
unfolding offered
offers words read None r made is result = subst (λ r. IfOk r (λ task. offered words ≡ Some (call_at task))) (sym result) tt
offers words read (Some task) r made is result =
    subst (λ r. IfOk r (λ task. offered words ≡ Some (call_at task))) (sym result) (ap (option_and_then offer) made ∙ sym is)

pub offers_within : (o : Option Task) (r : Result Task WordsFault) → IfSome o IsTaskWithin → r ≡ ok_or o Refused → IfOk r IsTaskWithin
offers_within None r within result = subst (λ r. IfOk r IsTaskWithin) (sym result) tt
offers_within (Some task) r within result = subst (λ r. IfOk r IsTaskWithin) (sym result) within

pub refuses : (words : List (List ℕ)) (read : Call) (o : Option Task) (r : Result Task WordsFault) → call_of words ≡ Some read → option_map call_at o ≡ offer read
    → r ≡ ok_or o Refused → IfErr r (λ fault. fault ≡ Refused → offered words ≡ None)
unfolding offered
refuses words read None r made is result =
    subst (λ r. IfErr r (λ fault. fault ≡ Refused → offered words ≡ None)) (sym result) (λ refused. ap (option_and_then offer) made ∙ sym is)
refuses words read (Some task) r made is result = subst (λ r. IfErr r (λ fault. fault ≡ Refused → offered words ≡ None)) (sym result) tt

unoffered : (call : Call) (b : Bool) → is_offered call ≡ b → None ≡ cond b (Some call) None → is_offered call ≡ false
unoffered call true is none = absurd (true≢false (sym (ap is_some none)))
unoffered call false is none = is

pub refuses_others : (words : List (List ℕ)) (read : Call) (o : Option Task) (r : Result Task WordsFault) (T : Type 0) → call_of words ≡ Some read
    → option_map call_at o ≡ offer read → r ≡ ok_or o Refused → IfErr r (λ fault. fault ≡ Refused → T → IsUnoffered words)
refuses_others words read None r T made is result =
    subst (λ r. IfErr r (λ fault. fault ≡ Refused → T → IsUnoffered words)) (sym result)
    (λ refused taken. subst (λ (o : Option Call). IsSomeAnd o (λ call. is_offered call ≡ false)) (sym made) (unoffered read (is_offered read) refl is))
refuses_others words read (Some task) r T made is result = subst (λ r. IfErr r (λ fault. fault ≡ Refused → T → IsUnoffered words)) (sym result) tt

-- ---- words that `read_words` refuses

pub refuses_unread : (words : List (List ℕ)) → call_of words ≡ None → offered words ≡ None
unfolding offered
refuses_unread words none = ap (option_and_then offer) none
