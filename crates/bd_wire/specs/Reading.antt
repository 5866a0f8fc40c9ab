-- What a cursor has read, and what it has left.
use Rattle.std.specs.Prelude.{◌≡◌, ◌+◌, ℕ, List, ◌++◌, length}

-- what a cursor shows: how many bytes it has read, and those that are left
pub record Unread : Type 0 where
  pub place : ℕ
  pub left : List ℕ

-- these bytes were read off the front
pub record Reads (old new : Unread) (bytes : List ℕ) : Type 0 where
  pub front : old.left ≡ bytes ++ new.left
  pub place : new.place ≡ old.place + length bytes
