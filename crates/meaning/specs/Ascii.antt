-- Print as bytes.
--   ascii s   the bytes of a text: each character's code, which for letters and spaces is ASCII's
-- Assumes nothing.
use Rattle.std.specs.Prelude.{List, [] as none, ◌∷◌ as cons, ℕ}
use Prim.Native.Char.{code}
use Prim.Native.String.{String, [], ◌∷◌}

abbrev pub ascii : String → List ℕ
ascii [] = none
ascii (c ∷ s) = cons (code c) (ascii s)
