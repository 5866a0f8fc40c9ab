-- What is at the path that a command leads a file's path to.
use Rattle.std.proofs.Common.{◌≡◌, ◌≢◌, ◌⊎◌, inl, inr, ℕ, Bool, true, false, cond, List, [], ◌∷◌, ◌++◌, refl, sym, ap, ◌∙◌, subst}
use Rattle.std.specs.Prelude.{is_some}
use Rattle.std.specs.FinMap.{get}
use Rattle.std.specs.declared.option.Option.{Option}
use Rattle.std.specs.declared.option.Option.TheVariants.{None, Some}
use Rattle.std.proofs.lemmas.List.{append-nil}
use Rattle.bd_keys.specs.Edits.{resized, overwritten}
use Rattle.bd_names.specs.Names.{rest_below, is_under}
use Rattle.bd_names.proofs.NamesLaws.{rest_below-some, rest_below-append, is_under-rest}
use Rattle.bd_command.specs.declared.Command.{Command}
use Rattle.bd_command.specs.declared.Command.TheVariants.{Mkdir, Create, Write, Truncate, Remove, Rename, Clone, Chmod, Read, Stat, List as Ls}
use Rattle.bd_model.specs.Tree.{Path, Entry, Directory, FileWith, Tree, IsTree}
use Rattle.bd_model.specs.Step.{has_file, file_bytes, with_bytes, with_mode, absent_refusal, new_refusal}
use Rattle.bd_model.specs.Laws.{Accepts, after}
use Rattle.bd_model.proofs.Accepted.{absent_below, accepted_second, absent_if_made}
use Rattle.bd_model.proofs.TreeLaws.{after-others, after-reading, after-written, after-truncated, after-chmod, after-remove-others, after-clone-others, after-renamed, after-rename-others}
use Rattle.bd_sessions.specs.Following.{kept_path, moved_path, followed}
use Rattle.bd_sessions.specs.Laws.{HasFileIfThere}

-- a file is at a path
abbrev HasFile : Tree → Path → Type 0
HasFile t path = has_file (get t path) ≡ true

-- two paths are one, or aren't
same_path : (p q : Path) → (q ≡ p) ⊎ (q ≢ p)
same_path p q = by (rest_below p q) refl
  where
    differ : (o : Option Path) → rest_below p q ≡ o → Some [] ≢ o → q ≢ p
    differ o e h same = h (sym (ap (rest_below p) (same ∙ sym (append-nil p)) ∙ rest_below-append p []) ∙ e)

    by : (o : Option Path) → rest_below p q ≡ o → (q ≡ p) ⊎ (q ≢ p)
    by None e = inr (differ None e (λ h. cc))
    by (Some []) e = inl (rest_below-some p q [] e ∙ append-nil p)
    by (Some (n ∷ r)) e = inr (differ (Some (n ∷ r)) e (λ h. cc))

file_there : (o : Option Entry) → has_file o ≡ true → (mode : ℕ) × (bytes : List ℕ) × (o ≡ Some (FileWith mode bytes))
file_there None h = cc
file_there (Some (Directory mode)) h = cc
file_there (Some (FileWith mode bytes)) h = (mode, bytes, refl)

-- what stays has the file
stays : (t u : Tree) (path : Path) → get u path ≡ get t path → HasFile t path → HasFile u path
stays t u path same h = ap has_file same ∙ h

-- where nothing is, no file is
absent : (t : Tree) (p path : Path) → get t p ≡ None → HasFile t path → path ≢ p
absent t p path none h e = let gone : has_file None ≡ true = ap has_file (sym none ∙ ap (get t) (sym e)) ∙ h in cc

-- a file at the path of a command that changes just what is there, or at another one
changed_file : (t u : Tree) (p path : Path) → (HasFile t p → HasFile u p) → (path ≢ p → get u path ≡ get t path) → HasFile t path → HasFile u path
changed_file t u p path here other h = by (same_path p path)
  where
    by : (path ≡ p) ⊎ (path ≢ p) → HasFile u path
    by (inl e) = subst (HasFile u) (sym e) (here (subst (HasFile t) e h))
    by (inr differ) = stays t u path (other differ) h

chmod_file : (t : Tree) (p : Path) (mode : ℕ) → HasFile t p → HasFile (after t (Chmod p mode)) p
chmod_file t p mode h =
    let file = file_there (get t p) h in
    ap has_file (after-chmod t p mode (FileWith file.0 file.1) file.2)

-- at or below where something goes, or elsewhere
kept_file : (t u : Tree) (gone path : Path) → (is_under gone path ≡ false → get u path ≡ get t path) → HasFile t path → HasFileIfThere u (kept_path gone path)
kept_file t u gone path other h = by (is_under gone path) refl
  where
    by : (b : Bool) → is_under gone path ≡ b → HasFileIfThere u (cond b None (Some path))
    by true e = tt
    by false e = stays t u path (other e) h

-- at or below where something moves, or elsewhere
moved_file : (t u : Tree) (a b path : Path) → ((rest : Path) → get u (b ++ rest) ≡ get t (a ++ rest)) → (is_under a path ≡ false → is_under b path ≡ false → get u path ≡ get t path)
    → HasFile t path → HasFileIfThere u (moved_path b path (rest_below a path))
moved_file t u a b path moved other h = by (rest_below a path) refl
  where
    by : (o : Option Path) → rest_below a path ≡ o → HasFileIfThere u (moved_path b path o)
    by None e = kept_file t u b path (other (ap is_some e)) h
    by (Some rest) e = ap has_file (moved rest ∙ ap (get t) (sym (rest_below-some a path rest e))) ∙ h

-- nothing was where a clone comes to
cloned_file : (t : Tree) (a b path : Path) → IsTree t → Accepts t (Clone a b) → HasFile t path → HasFile (after t (Clone a b)) path
cloned_file t a b path tree ok h = by (is_under b path) refl
  where
    none : get t b ≡ None
    none = absent_if_made t b (accepted_second (absent_refusal (get t a)) (new_refusal t b) ok)

    by : (u : Bool) → is_under b path ≡ u → HasFile (after t (Clone a b)) path
    by true e =
        let rest = is_under-rest b path e in
        absurd (absent t (b ++ rest.0) path (absent_below t tree b rest.0 none) h rest.1)
    by false e = stays t (after t (Clone a b)) path (after-clone-others t a b path e) h

pub followed_file : (t : Tree) (c : Command) (path : Path) → IsTree t → Accepts t c → HasFile t path → HasFileIfThere (after t c) (followed c path)
followed_file t (Mkdir p) path tree ok h =
    stays t (after t (Mkdir p)) path (after-others t (Mkdir p) p (Directory 0) path refl (absent t p path (absent_if_made t p ok) h)) h
followed_file t (Create p) path tree ok h =
    stays t (after t (Create p)) path (after-others t (Create p) p (FileWith 0 []) path refl (absent t p path (absent_if_made t p ok) h)) h
followed_file t (Write p off bytes) path tree ok h =
    changed_file t (after t (Write p off bytes)) p path (λ k. ap has_file (after-written t p off bytes ok).3)
    (after-others t (Write p off bytes) p (with_bytes (overwritten (file_bytes (get t p)) off bytes) (get t p)) path refl) h
followed_file t (Truncate p len) path tree ok h =
    changed_file t (after t (Truncate p len)) p path (λ k. ap has_file (after-truncated t p len ok).3)
    (after-others t (Truncate p len) p (with_bytes (resized (file_bytes (get t p)) len) (get t p)) path refl) h
followed_file t (Remove p) path tree ok h = kept_file t (after t (Remove p)) p path (after-remove-others t p path) h
followed_file t (Rename a b) path tree ok h =
    moved_file t (after t (Rename a b)) a b path (λ rest. after-renamed t a b rest tree ok) (after-rename-others t a b path) h
followed_file t (Clone a b) path tree ok h = cloned_file t a b path tree ok h
followed_file t (Chmod p mode) path tree ok h =
    changed_file t (after t (Chmod p mode)) p path (chmod_file t p mode) (after-others t (Chmod p mode) p (with_mode mode (get t p)) path refl) h
followed_file t (Read p off len) path tree ok h = stays t (after t (Read p off len)) path (ap (λ (u : Tree). get u path) (after-reading t (Read p off len) refl)) h
followed_file t (Stat p) path tree ok h = stays t (after t (Stat p)) path (ap (λ (u : Tree). get u path) (after-reading t (Stat p) refl)) h
followed_file t (Ls p name) path tree ok h = stays t (after t (Ls p name)) path (ap (λ (u : Tree). get u path) (after-reading t (Ls p name) refl)) h
