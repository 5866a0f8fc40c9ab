-- What a tree is seen as.
use Rattle.bd_graft.specs.declared.grafting.Walk.{Walk}

-- the store that a tree stands on, and how the last graft in it went
pub record TreeState (S : Type 0) : Type 0 where
  pub store : S
  pub walk : Walk
