-- No message's encoding begins another's.
use Rattle.std.proofs.Common.{◌≡◌, ◌≢◌, ℕ, ◌≤◌, List, [], ◌∷◌, ◌++◌, length, drop, get_or, sym, ap, subst, ◌∙◌, arith, length-append, Option, None, Some}
use Rattle.std.specs.Int.{w16, w64}
use Rattle.bd_wire.specs.Numbers.{be, FitsWidth}
use Rattle.bd_wire.proofs.NumberLemmas.{length-be, IsPrefixFree-be}
use Rattle.bd_wire.specs.Encoding.{IsPrefixFree, BeginsNone, FitsBoth, encode_both}
use Rattle.bd_wire.proofs.EncodingLemmas.{IsPrefixFree-both}
use Rattle.bd_wire.specs.Reading.{Unread}
use Rattle.bd_wire.specs.Text.{text16, FitsText16}
use Rattle.bd_wire.proofs.TextLemmas.{length-text16, IsPrefixFree-text16}
use Rattle.bd_message.specs.Messages.{IsMessage, size}
use Rattle.bd_message.specs.Codec.{message_bytes, IsEncodedAs, FitsMessage, FitsTexts, FitsPart, FitsGoto, encode_texts, encode_part, encode_goto}
use Rattle.bd_message.specs.declared.message.Message.{Message}
use Rattle.bd_message.specs.declared.message.Message.TheVariants.{Put, Del, Patch, Cut, Goto}

-- lists of different first bytes are two
pub apart : {A : Type 0} (a b : ℕ) (xs ys : List ℕ) → a ≢ b → a ∷ xs ≡ b ∷ ys → A
apart a b xs ys h e = absurd (h (ap (λ l. get_or l 0 0) e))

-- what is a message has an encoding
pub message_fits : (m : Message) → IsMessage m → FitsMessage m
message_fits (Put key value) h = (omega arith, omega arith)
message_fits (Del key) h = omega arith
message_fits (Patch key off bytes) h = ((omega arith, omega arith), omega arith)
message_fits (Cut prefix from) h = (omega arith, omega arith)
message_fits (Goto prefix source child) h = ((omega arith, omega arith), omega arith)

pub texts_alone : IsPrefixFree FitsTexts encode_texts
texts_alone = IsPrefixFree-both FitsText16 FitsText16 text16 text16 IsPrefixFree-text16 IsPrefixFree-text16

part_alone : IsPrefixFree FitsPart encode_part
part_alone = IsPrefixFree-both (FitsBoth FitsText16 (FitsWidth w16)) FitsText16 (encode_both text16 (be w16)) text16
    (IsPrefixFree-both FitsText16 (FitsWidth w16) text16 (be w16) IsPrefixFree-text16 (IsPrefixFree-be w16)) IsPrefixFree-text16

goto_alone : IsPrefixFree FitsGoto encode_goto
goto_alone = IsPrefixFree-both FitsTexts (FitsWidth w64) encode_texts (be w64) texts_alone (IsPrefixFree-be w64)

pub IsPrefixFree-message : IsPrefixFree FitsMessage message_bytes
IsPrefixFree-message (Put key value) (Put key' value') x y p q e =
    let same = texts_alone (key, value) (key', value') x y p q (ap (drop 1) e) in (ap (λ (p : List ℕ × List ℕ). Put p.0 p.1) same.0, same.1)
IsPrefixFree-message (Put key value) (Del key') x y p q e = apart 1 2 _ _ (omega arith) e
IsPrefixFree-message (Put key value) (Patch key' off' bytes') x y p q e = apart 1 3 _ _ (omega arith) e
IsPrefixFree-message (Put key value) (Cut prefix' from') x y p q e = apart 1 4 _ _ (omega arith) e
IsPrefixFree-message (Put key value) (Goto prefix' source' child') x y p q e = apart 1 5 _ _ (omega arith) e
IsPrefixFree-message (Del key) (Put key' value') x y p q e = apart 2 1 _ _ (omega arith) e
IsPrefixFree-message (Del key) (Del key') x y p q e =
    let same = IsPrefixFree-text16 key key' x y p q (ap (drop 1) e) in (ap Del same.0, same.1)
IsPrefixFree-message (Del key) (Patch key' off' bytes') x y p q e = apart 2 3 _ _ (omega arith) e
IsPrefixFree-message (Del key) (Cut prefix' from') x y p q e = apart 2 4 _ _ (omega arith) e
IsPrefixFree-message (Del key) (Goto prefix' source' child') x y p q e = apart 2 5 _ _ (omega arith) e
IsPrefixFree-message (Patch key off bytes) (Put key' value') x y p q e = apart 3 1 _ _ (omega arith) e
IsPrefixFree-message (Patch key off bytes) (Del key') x y p q e = apart 3 2 _ _ (omega arith) e
IsPrefixFree-message (Patch key off bytes) (Patch key' off' bytes') x y p q e =
    let same = part_alone ((key, off), bytes) ((key', off'), bytes') x y p q (ap (drop 1) e) in (ap (λ (p : (List ℕ × ℕ) × List ℕ). Patch p.0.0 p.0.1 p.1) same.0, same.1)
IsPrefixFree-message (Patch key off bytes) (Cut prefix' from') x y p q e = apart 3 4 _ _ (omega arith) e
IsPrefixFree-message (Patch key off bytes) (Goto prefix' source' child') x y p q e = apart 3 5 _ _ (omega arith) e
IsPrefixFree-message (Cut prefix from) (Put key' value') x y p q e = apart 4 1 _ _ (omega arith) e
IsPrefixFree-message (Cut prefix from) (Del key') x y p q e = apart 4 2 _ _ (omega arith) e
IsPrefixFree-message (Cut prefix from) (Patch key' off' bytes') x y p q e = apart 4 3 _ _ (omega arith) e
IsPrefixFree-message (Cut prefix from) (Cut prefix' from') x y p q e =
    let same = texts_alone (prefix, from) (prefix', from') x y p q (ap (drop 1) e) in (ap (λ (p : List ℕ × List ℕ). Cut p.0 p.1) same.0, same.1)
IsPrefixFree-message (Cut prefix from) (Goto prefix' source' child') x y p q e = apart 4 5 _ _ (omega arith) e
IsPrefixFree-message (Goto prefix source child) (Put key' value') x y p q e = apart 5 1 _ _ (omega arith) e
IsPrefixFree-message (Goto prefix source child) (Del key') x y p q e = apart 5 2 _ _ (omega arith) e
IsPrefixFree-message (Goto prefix source child) (Patch key' off' bytes') x y p q e = apart 5 3 _ _ (omega arith) e
IsPrefixFree-message (Goto prefix source child) (Cut prefix' from') x y p q e = apart 5 4 _ _ (omega arith) e
IsPrefixFree-message (Goto prefix source child) (Goto prefix' source' child') x y p q e =
    let same = goto_alone ((prefix, source), child) ((prefix', source'), child') x y p q (ap (drop 1) e) in (ap (λ (p : (List ℕ × List ℕ) × ℕ). Goto p.0.0 p.0.1 p.1) same.0, same.1)

pub no_put : (left : List ℕ) → BeginsNone FitsTexts encode_texts left → BeginsNone FitsMessage message_bytes (1 ∷ left)
no_put left none (Put key value) rest fits e = none (key, value) rest fits (ap (drop 1) e)
no_put left none (Del key) rest fits e = apart 1 2 _ _ (omega arith) e
no_put left none (Patch key off bytes) rest fits e = apart 1 3 _ _ (omega arith) e
no_put left none (Cut prefix from) rest fits e = apart 1 4 _ _ (omega arith) e
no_put left none (Goto prefix source child) rest fits e = apart 1 5 _ _ (omega arith) e

pub no_del : (left : List ℕ) → BeginsNone FitsText16 text16 left → BeginsNone FitsMessage message_bytes (2 ∷ left)
no_del left none (Put key value) rest fits e = apart 2 1 _ _ (omega arith) e
no_del left none (Del key) rest fits e = none key rest fits (ap (drop 1) e)
no_del left none (Patch key off bytes) rest fits e = apart 2 3 _ _ (omega arith) e
no_del left none (Cut prefix from) rest fits e = apart 2 4 _ _ (omega arith) e
no_del left none (Goto prefix source child) rest fits e = apart 2 5 _ _ (omega arith) e

pub no_patch : (left : List ℕ) → BeginsNone FitsPart encode_part left → BeginsNone FitsMessage message_bytes (3 ∷ left)
no_patch left none (Put key value) rest fits e = apart 3 1 _ _ (omega arith) e
no_patch left none (Del key) rest fits e = apart 3 2 _ _ (omega arith) e
no_patch left none (Patch key off bytes) rest fits e = none ((key, off), bytes) rest fits (ap (drop 1) e)
no_patch left none (Cut prefix from) rest fits e = apart 3 4 _ _ (omega arith) e
no_patch left none (Goto prefix source child) rest fits e = apart 3 5 _ _ (omega arith) e

pub no_cut : (left : List ℕ) → BeginsNone FitsTexts encode_texts left → BeginsNone FitsMessage message_bytes (4 ∷ left)
no_cut left none (Put key value) rest fits e = apart 4 1 _ _ (omega arith) e
no_cut left none (Del key) rest fits e = apart 4 2 _ _ (omega arith) e
no_cut left none (Patch key off bytes) rest fits e = apart 4 3 _ _ (omega arith) e
no_cut left none (Cut prefix from) rest fits e = none (prefix, from) rest fits (ap (drop 1) e)
no_cut left none (Goto prefix source child) rest fits e = apart 4 5 _ _ (omega arith) e

pub no_goto : (left : List ℕ) → BeginsNone FitsGoto encode_goto left → BeginsNone FitsMessage message_bytes (5 ∷ left)
no_goto left none (Put key value) rest fits e = apart 5 1 _ _ (omega arith) e
no_goto left none (Del key) rest fits e = apart 5 2 _ _ (omega arith) e
no_goto left none (Patch key off bytes) rest fits e = apart 5 3 _ _ (omega arith) e
no_goto left none (Cut prefix from) rest fits e = apart 5 4 _ _ (omega arith) e
no_goto left none (Goto prefix source child) rest fits e = none ((prefix, source), child) rest fits (ap (drop 1) e)

-- no message begins with another byte
pub no_other : (tag : ℕ) (left : List ℕ) → tag ≢ 1 → tag ≢ 2 → tag ≢ 3 → tag ≢ 4 → tag ≢ 5 → BeginsNone FitsMessage message_bytes (tag ∷ left)
no_other tag left a b c d e (Put key value) rest fits is = apart tag 1 _ _ a is
no_other tag left a b c d e (Del key) rest fits is = apart tag 2 _ _ b is
no_other tag left a b c d e (Patch key off bytes) rest fits is = apart tag 3 _ _ c is
no_other tag left a b c d e (Cut prefix from) rest fits is = apart tag 4 _ _ d is
no_other tag left a b c d e (Goto prefix source child) rest fits is = apart tag 5 _ _ e is

-- nor stands where nothing is left
nil_apart : {A : Type 0} (b : ℕ) (xs : List ℕ) → [] ≡ b ∷ xs → A
nil_apart b xs e = absurd (omega (arith, ap length e))

pub no_bytes : BeginsNone FitsMessage message_bytes []
no_bytes (Put key value) rest fits is = nil_apart 1 _ is
no_bytes (Del key) rest fits is = nil_apart 2 _ is
no_bytes (Patch key off bytes) rest fits is = nil_apart 3 _ is
no_bytes (Cut prefix from) rest fits is = nil_apart 4 _ is
no_bytes (Goto prefix source child) rest fits is = nil_apart 5 _ is

-- after a first byte
pub tagged : (left after : List ℕ) (tag n : ℕ) → left ≡ (tag ∷ []) ++ after → tag ≡ n → BeginsNone FitsMessage message_bytes (n ∷ after) → BeginsNone FitsMessage message_bytes left
tagged left after tag n read is none m rest fits encoded = none m rest fits (ap (λ b. b ∷ after) (sym is) ∙ sym read ∙ encoded)

-- where a message stands that isn't allowed, no other does
pub no_allowed : (left after : List ℕ) (m : Message) → FitsMessage m → left ≡ message_bytes m ++ after → ¬ IsMessage m → BeginsNone IsMessage message_bytes left
no_allowed left after m fits read not n rest is encoded =
    not (subst IsMessage (sym (IsPrefixFree-message m n after rest fits (message_fits n is) (sym read ∙ encoded)).0) is)

pub none_allowed : (left : List ℕ) → BeginsNone FitsMessage message_bytes left → BeginsNone IsMessage message_bytes left
none_allowed left none m rest is = none m rest (message_fits m is)

-- what was found isn't allowed, or nothing was found
pub encoded_other : (old at new : Unread) (found : Option Message) (m : Message) → at ≡ old → IsEncodedAs at new found → found ≡ Some m → ¬ IsMessage m → BeginsNone IsMessage message_bytes old.left
encoded_other old at new found m same encoded is not =
    let here : IsEncodedAs old new (Some m) = subst (IsEncodedAs old new) is (subst (λ (u : Unread). IsEncodedAs u new found) same encoded) in
    no_allowed old.left new.left m here.0 here.1.front not

pub encoded_none : (old at new : Unread) (found : Option Message) → at ≡ old → IsEncodedAs at new found → found ≡ None → BeginsNone IsMessage message_bytes old.left
encoded_none old at new found same encoded is =
    none_allowed old.left (subst (IsEncodedAs old new) is (subst (λ (u : Unread). IsEncodedAs u new found) same encoded))

pub message_alone : IsPrefixFree IsMessage message_bytes
message_alone m n x y p q e = IsPrefixFree-message m n x y (message_fits m p) (message_fits n q) e

-- an encoding is never longer than the message's size
pub encoding_within : (m : Message) → IsMessage m → length (message_bytes m) ≤ size m
encoding_within (Put key value) h = simp (length-append, length-text16) (omega arith)
encoding_within (Del key) h = simp length-text16 (omega arith)
encoding_within (Patch key off bytes) h = simp (length-append, length-text16, length-be) (omega arith)
encoding_within (Cut prefix from) h = simp (length-append, length-text16) (omega arith)
encoding_within (Goto prefix source child) h = simp (length-append, length-text16, length-be) (omega arith)
