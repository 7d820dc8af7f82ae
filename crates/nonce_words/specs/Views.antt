-- What contracts see of the words and of their seats.
use Rattle.std.specs.Prelude.{ℕ, List, slice_index}
use Rattle.atomic_table.specs.Seated.{TableId}
use Rattle.nonce_words.specs.declared.draw.NonceDraw.{NonceDraw}

-- which words these are, and how many nonces they have
pub record WordsView : Type 0 where
  pub table : TableId
  pub nonces : ℕ

-- which words the book's seat is of, and the epochs that it made, by nonce
pub record BookView : Type 0 where
  pub table : TableId
  pub made : List ℕ

-- which words a drawing seat is of, how many draws are left to it, what it drew, and the epochs that it knows, by nonce
pub record DrawView : Type 0 where
  pub table : TableId
  pub quota : ℕ
  pub drawn : List NonceDraw
  pub known : List ℕ

-- the epoch of a nonce, which is 0 where the list is shorter
abbrev pub epoch_at : List ℕ → ℕ → ℕ
epoch_at epochs nonce = slice_index epochs nonce
