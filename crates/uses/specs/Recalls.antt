-- What a book has ready for a request.
use Rattle.std.specs.Prelude.{ℕ, ◌≡◌, List, [], ◌∷◌, Some}
use Rattle.spaces.specs.declared.site.Target.TheVariants.{Server}
use Rattle.auth_events.specs.declared.journal.Call.TheVariants.{Preempt}
use Rattle.auth_events.specs.declared.journal.Entry.{Entry}
use Rattle.auth_events.specs.declared.journal.Gift.{Gift}
use Rattle.auth_events.specs.Book.{gift_told}

-- the book's latest entry, the first of these, tells the request that the gift is ready for its server
abbrev pub IsReady : ℕ → Gift → List Entry → Type 0
IsReady request gift [] = ⊥
IsReady request gift (entry ∷ before) =
    (entry.request ≡ request) × (entry.call ≡ Preempt Server) × (gift_told entry.reply ≡ Some gift)
