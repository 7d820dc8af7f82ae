-- What two threads do with one book.
use Rattle.std.specs.Prelude.{◌≡◌, ℕ, ◌⊎◌, List, [], ◌∷◌}
use Rattle.nonce_words.specs.declared.draw.NonceDraw.{NonceDraw}
use Rattle.auth_events.specs.declared.journal.BookReply.TheVariants.{Begun}
use Rattle.auth_events.specs.declared.journal.Call.TheVariants.{Begin}
use Rattle.auth_events.specs.declared.journal.Drawn.{Drawn}
use Rattle.auth_events.specs.declared.journal.Entry.{Entry}
use Rattle.auth_events.specs.declared.told.Told.TheVariants.{Made}
use Rattle.shared_book.specs.Callers.{CallerView, IsCallerOf, SharedView}

-- the entry by which the caller begins the request
abbrev pub begun : ℕ → ℕ → Entry
begun caller request = record { caller = caller; request = request; call = Begin; reply = Begun }

-- what a draw of the nonce gave
abbrev pub draw_of : ℕ → Drawn → NonceDraw
draw_of nonce drawn = record { nonce = nonce; count = drawn.count; epoch = drawn.epoch }

-- the caller of that number has begun the request of that number and drawn this of the nonce, and done no more
pub record HasServed (s : SharedView) (number nonce : ℕ) (drawn : Drawn) (c : CallerView) : Type 0 where
  pub caller : IsCallerOf s c
  pub number_is : c.number ≡ number
  pub begun_is : c.mine ≡ Made (begun number number) ∷ []
  pub drawn_is : c.drawn ≡ draw_of nonce drawn ∷ []

-- the list is of the two, one behind the other
abbrev pub IsInSomeOrder : {A : Type 0} → A → A → List A → Type 0
IsInSomeOrder a b items = (items ≡ a ∷ b ∷ []) ⊎ (items ≡ b ∷ a ∷ [])
