-- What an index that stands for a history replies is the book's answer.
use Rattle.std.proofs.Common.{◌≡◌, ℕ, ◌+◌, cond, List, refl, ap, ◌∙◌, Option, Some, None}
use Rattle.std.specs.Prelude.{IsTrue, is_some, option_map, unwrap_or}
use Rattle.std.proofs.lemmas.Bool.{false≢true}
use Rattle.spaces.specs.declared.roster.Roster.{Roster}
use Rattle.spaces.specs.ProtectionSpaces.{ProtectionSpace}
use Rattle.spaces.specs.Sites.{numbered}
use Rattle.auth_events.specs.declared.journal.Gift.{Gift}
use Rattle.auth_events.specs.declared.journal.Entry.{Entry}
use Rattle.auth_events.specs.declared.journal.BookReply.{BookReply}
use Rattle.auth_events.specs.declared.journal.BookReply.TheVariants.{Kept}
use Rattle.auth_events.specs.Tables.{Tables}
use Rattle.auth_events.specs.Past.{current, givings, terms}
use Rattle.auth_events.specs.Book.{IsLegalPast, kept_or, is_that_gift, next_gift}
use Rattle.auth_book.proofs.Here.{held_here}
use Rattle.auth_book.specs.declared.index.BookIndex.{BookIndex}
use Rattle.auth_book.specs.Indices.{StandsFor, space_row}
use Rattle.auth_book.specs.Replies.{held_of, kept_by, next_in}

module _ (index : BookIndex) (roster : Roster) (names : Tables) (past : List Entry) (legal : IsLegalPast roster names past) (stands : StandsFor index roster names past) where
  -- what is kept
  pub keeps : (gift : Gift) (done : BookReply) → kept_by gift done (held_of index gift.space) ≡ kept_or past gift done
  keeps gift done = ap (kept_by gift done) (held_here roster names past legal index stands gift.space) ∙ at (current past gift.space)
    where
      at : (o : Option Gift) → kept_by gift done (option_map (λ (g : Gift). record { gift = g; terms = terms past gift.space }) o) ≡ cond (is_that_gift o gift) done (Kept (unwrap_or (option_map (λ (g : Gift). g.ordinal) o) 0))
      at None = refl
      at (Some held) = refl

  -- the next gift of a named space
  pub next : (s : ℕ) → IsTrue (is_some (numbered names.spaces s)) → next_in index s ≡ next_gift past s
  next s named = ap (λ n. record { space = s; ordinal = n + 1 }) (ap (λ o. unwrap_or (option_map (λ row. row.givings) o) 0) (stands.spaces s) ∙ at (numbered names.spaces s) named)
    where
      at : (o : Option ProtectionSpace) → IsTrue (is_some o) → unwrap_or (option_map (λ row. row.givings) (option_map (λ (_ : ProtectionSpace). space_row names index.partitions past s) o)) 0 ≡ givings past s
      at None none = absurd (false≢true none)
      at (Some space) some = refl
