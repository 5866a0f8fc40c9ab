-- What a pager ends as, where a `&mut` to its device is returned.
use Rattle.std.specs.Prelude.{true}
use Rattle.std.specs.Borrow.{Lends, Fml, RattleType, MutBor}
use Rattle.bd_device.specs.declared.device.Device.{Ghosts}
use Rattle.bd_pager.specs.Pagers.{Paged}
use Rattle.bd_pager.specs.contracts.pager.Pager.{the_row}

module _ (D : RattleType) (g : Ghosts D.Denot) (p : MutBor (Paged D.Denot)) where
  -- once the borrow r ends, the pager has the device last left through r, and was told that it was
  -- lent
  abbrev pub lends_device : MutBor D.Denot → Fml
  lends_device r = Lends (the_row D g) D p r (λ d. record p.now { dev = d; is_lent = true })
