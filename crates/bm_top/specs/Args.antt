-- The status of a program that gets no words.
use Rattle.std.specs.Prelude.{ℕ}
use Rattle.std.specs.declared.io.ErrorKind.{ErrorKind}
use Rattle.std.specs.declared.io.ErrorKind.TheVariants as kinds

-- for want of memory, or for any other cause
abbrev pub no_words_status : ErrorKind → ℕ
no_words_status kinds.OutOfMemory = 7
no_words_status _ = 9
