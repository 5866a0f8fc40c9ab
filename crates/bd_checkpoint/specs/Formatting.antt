-- What a format starts with.
use Rattle.std.specs.Prelude.{◌≡◌, ℕ, true, false, [], replicate}
use Rattle.bd_pager.specs.Pagers.{Paged}

-- a pager over this device, of so many slots, that has saved nothing and wasn't lent
pub record IsNew {D : Type 0} (slots : ℕ) (dev : D) (p : Paged D) : Type 0 where
  pub device : p.dev ≡ dev
  pub saved : p.saved.entries ≡ []
  pub at : p.at ≡ []
  pub spare : p.spare ≡ replicate slots true
  pub lent : p.is_lent ≡ false
