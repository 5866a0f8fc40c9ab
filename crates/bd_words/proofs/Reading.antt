-- What `clap` makes of the words after a verb: before a first `--` a flag is a fault, and what is left are values.
use Rattle.std.proofs.Common.{◌≡◌, ◌∙◌, ◌⊎◌, inl, inr, ℕ, suc, Bool, true, false, cond, ◌&&◌, ◌||◌, ◌==◌, List, [], ◌∷◌, refl, sym, ap, ap₂, subst, Option, Some, None, true≢false}
use Rattle.std.specs.Prelude.{length, slice_get}
use Rattle.std.specs.Char.{encode_utf8}
use Rattle.std.specs.Option.{option_and_then, option_map, option_map_or}
use Rattle.std.specs.List.{AllByRecursion, fold}
use Rattle.std.specs.Str.{IsUtf8, chars, encode_utf8_all}
use Rattle.clap.specs.Lexer.{long_of, long_of_rest, short_of, short_of_rest, strip_byte}
use Rattle.clap.specs.Kinds.{Kinds, or_else}
use Rattle.clap.specs.Walk.{Step, after_step, value, word_met, Held, Row, Rule, Text, Walk, idle, positional, arg_by_index, arg_by_long, arg_by_short, is_multiple, is_pending, next_position, pushed, settled, settled_rows, takes_several, to_positional, walked}
use Rattle.clap.specs.Simple.{Shape, filled, help_rule}
use Rattle.clap.specs.Faults.{bundle_step_fault, flag_word_fault, flags_fault, long_fault, react_fault, short_fault, step_fault, turn_fault, use_fault, walk_fault, word_fault}
use Rattle.std.proofs.lemmas.Bool.{eqb-true}
use Rattle.std.proofs.lemmas.Str.{encodes-chars, IsUtf8-past_char}
use Rattle.bd_words.specs.Words.{is_dashes, is_flag, values_in}

-- ---- kinds

-- there is a kind
abbrev pub is_some_kind : Kinds → Bool
is_some_kind [] = false
is_some_kind (k ∷ ks) = true

pub refused : (ks : Kinds) → is_some_kind ks ≡ true → ks ≡ [] → ⊥
refused ks some none = absurd (true≢false (sym some ∙ ap is_some_kind none))

pub left_refused : (a b : Kinds) → (a ≡ [] → ⊥) → or_else a b ≡ [] → ⊥
left_refused [] b h e = h refl
left_refused (k ∷ ks) b h e = h e

pub right_refused : (a b : Kinds) → (b ≡ [] → ⊥) → or_else a b ≡ [] → ⊥
right_refused [] b h e = h e
right_refused (k ∷ ks) b h e = refused (k ∷ ks) refl e

-- ---- flags

abbrev pub help : Rule
help = filled help_rule

abbrev pub IsHelp : Option Rule → Type 0
IsHelp o = (o ≡ None) ⊎ (o ≡ Some help)

react_refused : (c : List Rule) (again : Bool) (h : Held) → react_fault c again help [] h ≡ [] → ⊥
react_refused c again h = right_refused _ (use_fault again help [] (settled c h).rows) (refused _ refl)

long_refused : (c : List Rule) (again : Bool) (o : Option Rule) (v : Option Text) (h : Held) → IsHelp o → long_fault c again o v h ≡ [] → ⊥
long_refused c again o v h (inl none) e = refused _ refl (subst (λ o. long_fault c again o v h ≡ []) none e)
long_refused c again o None h (inr some) e = react_refused c again h (subst (λ o. long_fault c again o None h ≡ []) some e)
long_refused c again o (Some v) h (inr some) e = refused _ refl (subst (λ o. long_fault c again o (Some v) h ≡ []) some e)

short_refused : (c : List Rule) (again : Bool) (o : Option Rule) (rest : Text) (h : Held) (next : Held → Kinds) → IsHelp o → short_fault c again o rest h next ≡ [] → ⊥
short_refused c again o rest h next (inl none) e = refused _ refl (subst (λ o. short_fault c again o rest h next ≡ []) none e)
short_refused c again o rest h next (inr some) e =
    left_refused (react_fault c again help [] h) _ (react_refused c again h) (subst (λ o. short_fault c again o rest h next ≡ []) some e)

-- a text that isn't empty has a first character
first_char : (x : ℕ) (xs : Text) → IsUtf8 (x ∷ xs) → (c : ℕ) × (slice_get (chars (x ∷ xs)) 0 ≡ Some c)
first_char x xs utf8 = go (chars (x ∷ xs)) (encodes-chars (x ∷ xs) utf8)
  where
    go : (cs : List ℕ) → encode_utf8_all cs ≡ x ∷ xs → (c : ℕ) × (slice_get cs 0 ≡ Some c)
    go [] e = absurd (true≢false (ap is_empty_text e))
      where
        is_empty_text : Text → Bool
        is_empty_text [] = true
        is_empty_text (x ∷ xs) = false
    go (c ∷ cs) e = (c, refl)

after_dash : (xs : Text) → IsUtf8 (45 ∷ xs) → IsUtf8 xs
unfolding encode_utf8
after_dash xs utf8 = IsUtf8-past_char (45 ∷ xs) xs 45 utf8 refl

module _ (s : Shape) (longs : (name : Text) → IsHelp (arg_by_long s.rules name)) (shorts : (x : ℕ) → IsHelp (arg_by_short s.rules x)) where
  bundle_refused : (x : ℕ) (xs : Text) (h : Held) → IsUtf8 (x ∷ xs) → flags_fault s.rules s.args_override_self (suc (length xs)) (x ∷ xs) 0 h ≡ [] → ⊥
  unfolding flags_fault
  bundle_refused x xs h utf8 e =
      let c = first_char x xs utf8 in
      short_refused s.rules s.args_override_self (arg_by_short s.rules c.0) _ h _ (shorts c.0)
      (subst (λ o. bundle_step_fault s.rules s.args_override_self o (x ∷ xs) 0 h (flags_fault s.rules s.args_override_self (length xs)) ≡ []) c.1 e)

  -- a flag before `--` is a fault
  pub flag_refused : (word : Text) (h : Held) → IsUtf8 word → is_flag word ≡ true → is_dashes word ≡ false → h.skip ≡ 0
      → flag_word_fault s.rules s.args_override_self (long_of word) word h ≡ [] → ⊥
  flag_refused [] h utf8 flag dashes skip e = absurd (true≢false (sym flag))
  flag_refused (b ∷ []) h utf8 flag dashes skip e = absurd (true≢false (sym flag))
  flag_refused (b ∷ x ∷ xs) h utf8 flag dashes skip e =
      let is : b ≡ 45 = eqb-true b 45 flag in
      begun x xs h (subst (λ b. IsUtf8 (b ∷ x ∷ xs)) is utf8) (subst (λ b. is_dashes (b ∷ x ∷ xs) ≡ false) is dashes) skip
      (subst (λ b. flag_word_fault s.rules s.args_override_self (long_of (b ∷ x ∷ xs)) (b ∷ x ∷ xs) h ≡ []) is e)
    where
      begun : (x : ℕ) (xs : Text) (h : Held) → IsUtf8 (45 ∷ x ∷ xs) → is_dashes (45 ∷ x ∷ xs) ≡ false → h.skip ≡ 0
          → flag_word_fault s.rules s.args_override_self (long_of (45 ∷ x ∷ xs)) (45 ∷ x ∷ xs) h ≡ [] → ⊥
      begun x xs h utf8 dashes skip e = go (x == 45) refl xs utf8 dashes e
        where
          go : (t : Bool) → (x == 45) ≡ t → (xs : Text) → IsUtf8 (45 ∷ x ∷ xs) → is_dashes (45 ∷ x ∷ xs) ≡ false
              → flag_word_fault s.rules s.args_override_self (long_of (45 ∷ x ∷ xs)) (45 ∷ x ∷ xs) h ≡ [] → ⊥
          go true t [] utf8 dashes e = absurd (true≢false (rw t at dashes))
          go true t (y ∷ ys) utf8 dashes e = long_refused s.rules s.args_override_self _ _ h (longs _) (rw t at e)
          go false t xs utf8 dashes e =
              bundle_refused x xs (record h { skip = 0 }) (after_dash (x ∷ xs) utf8)
              (subst (λ n. flags_fault s.rules s.args_override_self (suc (length xs)) (x ∷ xs) n (record h { skip = 0 }) ≡ []) skip (rw t at (rw t at e)))

-- ---- a parse between two words

abbrev pub at : Bool → List Row → Option (Text × List Text) → Bool → ℕ → Walk
at trailing rows pending several position = record {
  held = record { rows = rows; pending = pending; skip = 0 };
  waiting = cond several positional idle;
  position = position;
  is_trailing = trailing;
  stopped = None;
}

-- where a word that no option takes leads, whether `--` was there or not
record Next (c : List Rule) (o : Option Rule) (word : Text) (r : List Row) (p : Option (Text × List Text)) (m : Bool) (i : ℕ) : Type 0 where
  pub rows : List Row
  pub pending : Option (Text × List Text)
  pub several : Bool
  pub position : ℕ
  pub is : (t : Bool) → to_positional c o word (at t r p m i) (at t r p m i).held ≡ at t rows pending several position

abbrev pub NeverTrails : Option Rule → Type 0
NeverTrails o = option_map_or (λ a. a.trailing_var_arg) o false ≡ false

next_of : (c : List Rule) (o : Option Rule) (word : Text) (r : List Row) (p : Option (Text × List Text)) (m : Bool) (i : ℕ) → NeverTrails o → Next c o word r p m i
next_of c None word r p m i never = record { rows = r; pending = p; several = m; position = i; is = λ t. refl }
next_of c (Some a) word r p m i never = go (is_pending a p && takes_several a) refl
  where
    trails : (t : Bool) → (t || a.trailing_var_arg) ≡ t
    trails true = refl
    trails false = never

    go : (b : Bool) → (is_pending a p && takes_several a) ≡ b → Next c (Some a) word r p m i
    go true e = record {
      rows = r;
      pending = (pushed a.id word (record { rows = r; pending = p; skip = 0 })).pending;
      several = is_multiple a;
      position = next_position a i;
      is = λ t. ap₂ (λ (b : Bool) (h : Bool). record {
        held = pushed a.id word (cond h (record { rows = r; pending = p; skip = 0 }) (settled c (record { rows = r; pending = p; skip = 0 })));
        waiting = cond (is_multiple a) positional idle;
        position = next_position a i;
        is_trailing = b;
        stopped = None;
      }) (trails t) e;
    }
    go false e = record {
      rows = settled_rows c p r;
      pending = Some (a.id, word ∷ []);
      several = is_multiple a;
      position = next_position a i;
      is = λ t. ap₂ (λ (b : Bool) (h : Bool). record {
        held = pushed a.id word (cond h (record { rows = r; pending = p; skip = 0 }) (settled c (record { rows = r; pending = p; skip = 0 })));
        waiting = cond (is_multiple a) positional idle;
        position = next_position a i;
        is_trailing = b;
        stopped = None;
      }) (trails t) e;
    }

-- what is no flag and not `--` is a value
pub not_long : (word : Text) → is_flag word ≡ false → long_of word ≡ None
not_long [] e = refl
not_long (b ∷ []) e = go (b == 45)
  where
    go : (t : Bool) → option_and_then long_of_rest (option_and_then (strip_byte 45) (cond t (Some []) None)) ≡ None
    go true = refl
    go false = refl
not_long (b ∷ c ∷ bs) e = ap (λ t. option_and_then long_of_rest (option_and_then (strip_byte 45) (cond t (Some (c ∷ bs)) None))) e

pub not_short : (word : Text) → is_flag word ≡ false → short_of word ≡ None
not_short [] e = refl
not_short (b ∷ []) e = go (b == 45)
  where
    go : (t : Bool) → option_and_then short_of_rest (cond t (Some []) None) ≡ None
    go true = refl
    go false = refl
not_short (b ∷ c ∷ bs) e = ap (λ t. option_and_then short_of_rest (cond t (Some (c ∷ bs)) None)) e

module _ (s : Shape) (longs : (name : Text) → IsHelp (arg_by_long s.rules name)) (shorts : (x : ℕ) → IsHelp (arg_by_short s.rules x))
    (never : (i : ℕ) → NeverTrails (arg_by_index s.rules i)) where
  -- the rest of a walk fails with this, and ends with what is held
  abbrev pub rest_fault : Walk → List Text → Kinds
  rest_fault w ws = walk_fault s [] w ws

  abbrev pub end_held : Walk → List Text → Held
  end_held w ws = (fold (walked s.rules []) w ws).held

  -- ---- a value

  met : Bool → Bool → Text → Held → Held × Step
  met trailing several word h = word_met s.rules [] trailing (cond several positional idle) 0 word h

  met_value : (m : Bool) (i : ℕ) (word : Text) (h : Held) → is_flag word ≡ false → is_dashes word ≡ false
      → word_met s.rules [] false (cond m positional idle) i word h ≡ (h, value)
  met_value true i word h flag dashes = rw (dashes, not_long word flag, not_short word flag) refl
  met_value false i word h flag dashes = rw (dashes, not_long word flag, not_short word flag) refl

  passes_value : (m : Bool) (word : Text) (h : Held) → is_flag word ≡ false → is_dashes word ≡ false
      → word_fault s [] false (cond m positional idle) word h ≡ []
  passes_value true word h flag dashes = rw (dashes, not_long word flag, not_short word flag) refl
  passes_value false word h flag dashes = rw (dashes, not_long word flag, not_short word flag) refl

  walked_value : (word : Text) (r : List Row) (p : Option (Text × List Text)) (m : Bool) (i : ℕ) → is_flag word ≡ false → is_dashes word ≡ false
      → walked s.rules [] (at false r p m i) word ≡ to_positional s.rules (arg_by_index s.rules i) word (at false r p m i) (at false r p m i).held
  unfolding walked
  walked_value word r p m i flag dashes =
      ap (λ (q : Held × Step). after_step s.rules word (at false r p m i) q.0 q.1) (met_value m i word (at false r p m i).held flag dashes)

  walked_trailing : (word : Text) (r : List Row) (p : Option (Text × List Text)) (m : Bool) (i : ℕ)
      → walked s.rules [] (at true r p m i) word ≡ to_positional s.rules (arg_by_index s.rules i) word (at true r p m i) (at true r p m i).held
  unfolding walked
  walked_trailing word r p m i = refl

  turn_value : (word : Text) (r : List Row) (p : Option (Text × List Text)) (m : Bool) (i : ℕ) → is_flag word ≡ false → is_dashes word ≡ false
      → turn_fault s [] (at false r p m i) word ≡ turn_fault s [] (at true r p m i) word
  turn_value word r p m i flag dashes =
      ap₂ (λ (q : Held × Step) (k : Kinds). or_else k (step_fault s i q.0 q.1)) (met_value m i word (at false r p m i).held flag dashes)
      (passes_value m word (at false r p m i).held flag dashes)

  turn_flag : (word : Text) (r : List Row) (p : Option (Text × List Text)) (m : Bool) (i : ℕ) → IsUtf8 word → is_flag word ≡ true → is_dashes word ≡ false
      → turn_fault s [] (at false r p m i) word ≡ [] → ⊥
  turn_flag word r p m i utf8 flag dashes =
      left_refused (word_fault s [] false (cond m positional idle) word (at false r p m i).held) _ (go m)
    where
      go : (m : Bool) → word_fault s [] false (cond m positional idle) word (record { rows = r; pending = p; skip = 0 }) ≡ [] → ⊥
      go true e = flag_refused s longs shorts word _ utf8 flag dashes refl (rw dashes at e)
      go false e = flag_refused s longs shorts word _ utf8 flag dashes refl (rw dashes at e)

  -- ---- `--`

  walked_dashes : (word : Text) (r : List Row) (p : Option (Text × List Text)) (m : Bool) (i : ℕ) → is_dashes word ≡ true
      → walked s.rules [] (at false r p m i) word ≡ at true r p m i
  unfolding walked
  walked_dashes word r p true i dashes = rw dashes refl
  walked_dashes word r p false i dashes = rw dashes refl

  turn_dashes : (word : Text) (r : List Row) (p : Option (Text × List Text)) (m : Bool) (i : ℕ) → is_dashes word ≡ true
      → turn_fault s [] (at false r p m i) word ≡ []
  turn_dashes word r p true i dashes = rw dashes refl
  turn_dashes word r p false i dashes = rw dashes refl

  -- ---- the words after a verb

  abbrev pub Follows : Bool → List Row → Option (Text × List Text) → Bool → ℕ → List Text → Option (List Text) → Type 0
  Follows t r p m i ws None = rest_fault (at t r p m i) ws ≡ [] → ⊥
  Follows t r p m i ws (Some vs) = (rest_fault (at t r p m i) ws ≡ rest_fault (at true r p m i) vs)
      × (end_held (at t r p m i) ws ≡ end_held (at true r p m i) vs)

  pub follows : (ws : List Text) (r : List Row) (p : Option (Text × List Text)) (m : Bool) (i : ℕ) → AllByRecursion IsUtf8 ws → Follows false r p m i ws (values_in ws)
  unfolding walk_fault
  follows [] r p m i utf8 = (refl, refl)
  follows (w ∷ ws) r p m i utf8 = go (follows ws n.rows n.pending n.several n.position utf8.1) (is_dashes w) (is_flag w) refl refl
    where
      n : Next s.rules (arg_by_index s.rules i) w r p m i
      n = next_of s.rules (arg_by_index s.rules i) w r p m i (never i)

      step : (o : Option (List Text)) → is_flag w ≡ false → is_dashes w ≡ false → Follows false n.rows n.pending n.several n.position ws o
          → Follows false r p m i (w ∷ ws) (option_map (λ vs. w ∷ vs) o)
      step None flag dashes h =
          right_refused (turn_fault s [] (at false r p m i) w) _ (λ e. h (subst (λ v. walk_fault s [] v ws ≡ []) (walked_value w r p m i flag dashes ∙ n.is false) e))
      step (Some vs) flag dashes h = (
        ap₂ or_else (turn_value w r p m i flag dashes)
            (ap (λ v. walk_fault s [] v ws) (walked_value w r p m i flag dashes ∙ n.is false) ∙ h.0
            ∙ sym (ap (λ v. walk_fault s [] v vs) (walked_trailing w r p m i ∙ n.is true))),
        ap (λ (v : Walk). (fold (walked s.rules []) v ws).held) (walked_value w r p m i flag dashes ∙ n.is false) ∙ h.1
            ∙ sym (ap (λ (v : Walk). (fold (walked s.rules []) v vs).held) (walked_trailing w r p m i ∙ n.is true)),
      )

      go : Follows false n.rows n.pending n.several n.position ws (values_in ws) → (d f : Bool) → is_dashes w ≡ d → is_flag w ≡ f
          → Follows false r p m i (w ∷ ws) (cond (is_dashes w) (Some ws) (cond (is_flag w) None (option_map (λ vs. w ∷ vs) (values_in ws))))
      go rec true f dashes flag = rw dashes (
        ap₂ (λ k v. or_else k (walk_fault s [] v ws)) (turn_dashes w r p m i dashes) (walked_dashes w r p m i dashes),
        ap (λ (v : Walk). (fold (walked s.rules []) v ws).held) (walked_dashes w r p m i dashes),
      )
      go rec false true dashes flag = rw (dashes, flag) (left_refused _ _ (turn_flag w r p m i utf8.0 flag dashes))
      go rec false false dashes flag = rw (dashes, flag) (step (values_in ws) flag dashes rec)
