-- What a caller has seen named or given is so in the book that it finds, and what it has left the book may name.
use Rattle.std.proofs.Common.{◌≡◌, ℕ, ◌*◌, ◌<◌, List, length, ap, sym, subst, ◌∙◌}
use Rattle.std.specs.Prelude.{IsTrue, is_some}
use Rattle.spaces.specs.ProtectionSpaces.{ProtectionSpace}
use Rattle.spaces.specs.Sites.{numbered}
use Rattle.spaces.specs.declared.roster.Roster.{Roster}
use Rattle.spaces.specs.declared.terms.Terms.{Terms}
use Rattle.auth_events.specs.declared.journal.Gift.{Gift}
use Rattle.auth_events.specs.declared.told.Told.{Told}
use Rattle.auth_events.specs.Tables.{Tables, is_home}
use Rattle.auth_events.specs.Book.{IsLegal, IsLegalPast}
use Rattle.auth_events.specs.Identities.{giving, identity}
use Rattle.auth_events.specs.Told.{MayNameSpace, MayNameTerms, has_no_draw, journal, names_told, past}
use Rattle.book_laws.specs.Owners.{items_of}
use Rattle.book_laws.specs.Shares.{HasSpaceLeft, HasTermsLeft, HasTextLeft}
use Rattle.book_laws.proofs.Gifts.{identity_kept}
use Rattle.book_laws.proofs.Lifting.{extends_more, past_legal}
use Rattle.book_laws.proofs.Sharing.{home_now, may_name_space, may_name_terms, may_name_text, space_left_now, terms_left_now}
use Rattle.shared_book.specs.Callers.{CallerView, IsBookOf, SharedView}

module _ (s : SharedView) (v : CallerView) (roster : Roster) (names : Tables) (told : List Told) (found : IsBookOf s v roster told) (named : names_told told ≡ names) where
  pub space_now : (n : ℕ) → IsTrue (is_some (numbered (names_told v.seen).spaces n)) → numbered names.spaces n ≡ numbered (names_told v.seen).spaces n
  space_now n is =
      subst (λ (t : Tables). numbered t.spaces n ≡ numbered (names_told v.seen).spaces n) (ap names_told found.seen.kept.1 ∙ named)
      ((extends_more v.seen found.seen.kept.0).spaces n is)

  pub terms_now : (n : ℕ) → IsTrue (is_some (numbered (names_told v.seen).terms n)) → numbered names.terms n ≡ numbered (names_told v.seen).terms n
  terms_now n is =
      subst (λ (t : Tables). numbered t.terms n ≡ numbered (names_told v.seen).terms n) (ap names_told found.seen.kept.1 ∙ named)
      ((extends_more v.seen found.seen.kept.0).terms n is)

  module _ (none : IsTrue (has_no_draw told)) (legal : IsLegal roster names (journal told)) where
    told_legal : IsLegal roster (names_told told) (journal told)
    told_legal = subst (λ (t : Tables). IsLegal roster t (journal told)) (sym named) legal

    -- the gift was given and stands for the identity that the caller knows
    pub gift_now : (gift : Gift) → IsTrue (is_some (giving (past v.seen) gift)) → (giving (past told) gift ≡ giving (past v.seen) gift) × (identity roster names (past told) gift ≡ identity s.roster (names_told v.seen) (past v.seen) gift)
    gift_now gift given =
        let kept = identity_kept roster v.seen told gift none told_legal found.seen.kept (subst (λ (r : Roster). IsLegal r (names_told v.seen) (journal v.seen)) (sym found.roster_is) found.legal) given in (
          kept.0,
          ap (λ (t : Tables). identity roster t (past told) gift) (sym named) ∙ (kept.1 ∙ ap (λ (r : Roster). identity r (names_told v.seen) (past v.seen) gift) found.roster_is),
        )

    told_past : IsLegalPast roster (names_told told) (past told)
    told_past = past_legal roster (names_told told) told none told_legal

    pub space_left : (space : ProtectionSpace) → HasSpaceLeft v.mine v.seen space → MayNameSpace roster names space × HasSpaceLeft (items_of v.number told) told space
    space_left space left =
        let now = space_left_now v.number v.seen told found.seen.kept (items_of v.number told) space (subst (λ (l : List Told). HasSpaceLeft l v.seen space) found.mine left) in
        (subst (λ (t : Tables). MayNameSpace roster t space) named (may_name_space roster s.callers v.number told told_past found.owned found.within found.number.0 found.number.1 space now), now)

    pub terms_left : (n : ℕ) (terms : Terms) → IsTrue (is_home (names_told v.seen) n terms) → HasTermsLeft v.number v.mine v.seen n terms → IsTrue (is_home names n terms) × MayNameTerms roster names n terms × HasTermsLeft v.number (items_of v.number told) told n terms
    terms_left n terms home left =
        let now = terms_left_now v.number v.seen told found.seen.kept (items_of v.number told) n terms found.seen.own (subst (λ (l : List Told). HasTermsLeft v.number l v.seen n terms) found.mine left) in (
          subst (λ (t : Tables). IsTrue (is_home t n terms)) named (home_now v.number v.seen told found.seen.kept n terms home),
          subst (λ (t : Tables). MayNameTerms roster t n terms) named (may_name_terms roster s.callers v.number told told_past found.owned found.within found.number.0 found.number.1 n terms now),
          now,
        )

    pub text_left : HasTextLeft v.mine → (length names.texts < 64 * length roster.requests) × HasTextLeft (items_of v.number told)
    text_left left =
        let now = subst HasTextLeft found.mine left in
        (subst (λ (t : Tables). length t.texts < 64 * length roster.requests) named (may_name_text roster s.callers v.number told told_past found.owned found.within found.number.0 found.number.1 now), now)
