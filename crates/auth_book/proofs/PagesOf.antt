-- The entries of a legal past are pages of its roster.
use Rattle.std.proofs.Common.{◌≡◌, false, List, [], ◌∷◌, length, refl, sym, subst, arith}
use Rattle.std.specs.Prelude.{All, IsTrue, reverse}
use Rattle.std.proofs.lemmas.Bool.{false≢true}
use Rattle.std.proofs.lemmas.List.{reverse-append, reverse-reverse}
use Rattle.std.proofs.lemmas.List.Elements.{All-nil}
use Rattle.spaces.specs.declared.roster.Roster.{Roster}
use Rattle.auth_events.specs.declared.journal.Entry.{Entry}
use Rattle.auth_events.specs.declared.journal.Call.{Call}
use Rattle.auth_events.specs.declared.journal.Call.TheVariants.{Begin, Preempt, Select, Reject, Renew, Answer, Lose, Take, Note, End, Draw}
use Rattle.auth_events.specs.declared.journal.BookReply.{BookReply}
use Rattle.auth_events.specs.declared.journal.BookReply.TheVariants.{Pending}
use Rattle.auth_events.specs.Tables.{Tables}
use Rattle.auth_events.specs.Pages.{HasRoomFor, IsPage, IsWithinRoom, fits}
use Rattle.auth_events.specs.Book.{IsLegalPast, allowed, answer}
use Rattle.auth_events.specs.Told.{is_pending}
use Rattle.auth_events.proofs.Legal.{All-reverse, room_for}
use Rattle.auth_events.proofs.RoomLemmas.{IsWithinRoom-push}

never_pending : (call : Call) → IsTrue (fits call Pending) → ⊥
never_pending Begin fit = false≢true fit
never_pending (Preempt target) fit = false≢true fit
never_pending (Select s t) fit = false≢true fit
never_pending (Reject s o) fit = false≢true fit
never_pending (Renew gift t) fit = false≢true fit
never_pending (Answer p x t) fit = false≢true fit
never_pending (Lose p loss) fit = false≢true fit
never_pending (Take p) fit = false≢true fit
never_pending (Note gift) fit = false≢true fit
never_pending End fit = false≢true fit
never_pending (Draw nonce) fit = false≢true fit

pub fits_done : (call : Call) (reply : BookReply) → IsTrue (fits call reply) → is_pending reply ≡ false
fits_done call Pending fit = absurd (never_pending call fit)
fits_done call reply fit = refl

module _ (roster : Roster) (names : Tables) where
  pub room_at : (past : List Entry) (entry : Entry) → IsWithinRoom (length roster.requests) (reverse past) → IsTrue (allowed roster names past entry.caller entry.request entry.call) → entry.reply ≡ answer roster names past entry.request entry.call → is_pending entry.reply ≡ false → HasRoomFor (record { requests = length roster.requests; entries = reverse past }) entry
  room_at past entry within may is done =
      let back : reverse (reverse past) ≡ past = reverse-reverse past in
      room_for roster names (length roster.requests) (reverse past) entry within refl
      (subst (λ es. IsTrue (allowed roster names es entry.caller entry.request entry.call)) (sym back) may)
      (subst (λ es. entry.reply ≡ answer roster names es entry.request entry.call) (sym back) is) done

  pub within_room : (past : List Entry) → IsLegalPast roster names past → IsWithinRoom (length roster.requests) (reverse past)
  within_room [] legal = record { pages = All-nil (IsPage (length roster.requests)); few = λ r. omega arith }
  within_room (entry ∷ past) legal =
      let before = within_room past legal.0 in
      subst (λ es. IsWithinRoom (length roster.requests) es) (sym (reverse-append (entry ∷ []) past))
      (IsWithinRoom-push (length roster.requests) (reverse past) entry before
      (room_at past entry before legal.1.0 legal.1.1 (fits_done entry.call entry.reply legal.1.2)))

  pub pages_of : (past : List Entry) → IsLegalPast roster names past → All (IsPage (length roster.requests)) past
  pages_of past legal =
      subst (λ es. All (IsPage (length roster.requests)) es) (reverse-reverse past) (All-reverse (IsPage (length roster.requests)) (reverse past) (within_room past legal).pages)
