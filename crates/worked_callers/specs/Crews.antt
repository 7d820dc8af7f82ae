-- What the worked histories keep of their callers.
use Rattle.std.specs.Prelude.{◌≡◌, ℕ, List}
use Rattle.auth_events.specs.declared.told.Told.{Told}
use Rattle.book_laws.specs.Shares.{begun, terms_named}
use Rattle.shared_book.specs.Callers.{CallerView, IsCallerOf, SharedView}

-- the caller is of the shared book, and has that number
abbrev pub IsNumbered : SharedView → ℕ → CallerView → Type 0
IsNumbered s number c = IsCallerOf s c × (c.number ≡ number)

-- as many requests were begun and as many terms named
abbrev pub HasSameCounts : List Told → List Told → Type 0
HasSameCounts before after = (begun after ≡ begun before) × (terms_named after ≡ terms_named before)
