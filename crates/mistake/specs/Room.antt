-- The room of a message.
--   before_words   100: no more bytes come before the words for what was expected
-- Assumes nothing.
use Rattle.std.specs.Prelude.{ℕ}

abbrev pub before_words : ℕ
before_words = 100
