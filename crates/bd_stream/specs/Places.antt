-- Where what is exported stands, and how far its file goes.
use Rattle.std.specs.Prelude.{ℕ, ◌+◌}
use Rattle.bd_stream.specs.declared.stage.Stage.{Stage}
use Rattle.bd_stream.specs.declared.stage.Stage.TheVariants.{Look, Piece, Inside, Beside, Whole, Absent, Overlong}

-- where the bytes of a file end that are read
abbrev pub end_of : Stage → ℕ
end_of Look = 0
end_of (Piece off left) = off + left
end_of Inside = 0
end_of Beside = 0
end_of Whole = 0
end_of Absent = 0
end_of Overlong = 0
