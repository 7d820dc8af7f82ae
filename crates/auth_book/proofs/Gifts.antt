-- What an entry gives finds room in the log of gifts.
use Rattle.std.proofs.Common.{◌≡◌, ℕ, ◌+◌, ◌*◌, ◌<◌, ◌≤◌, true, cond, List, [], ◌∷◌, ◌++◌, length, refl, ap, sym, subst, ◌∙◌, arith, Option, Some, None, reverse}
use Rattle.std.proofs.Math.Logic.{∥∥₁_elim}
use Rattle.std.specs.Coded.{le_prop}
use Rattle.std.specs.List.{cons_option}
use Rattle.std.specs.Prelude.{IfSome, IsTrue, is_some, option_map, option_to_list}
use Rattle.std.proofs.lemmas.List.{reverse-append}
use Rattle.std.proofs.lemmas.List.Elements.{filter_map-append}
use Rattle.spaces.specs.declared.roster.Roster.{Roster}
use Rattle.spaces.specs.Sites.{numbered}
use Rattle.auth_events.specs.declared.journal.Entry.{Entry}
use Rattle.auth_events.specs.declared.journal.Gift.{Gift}
use Rattle.auth_events.specs.declared.told.NewName.{NewName}
use Rattle.auth_events.specs.Tables.{Tables}
use Rattle.auth_events.specs.Past.{gift_given, gives, is_of}
use Rattle.auth_events.specs.Book.{IsLegalPast}
use Rattle.auth_events.specs.Identities.{identity}
use Rattle.auth_events.specs.Ledgers.{IsKept}
use Rattle.auth_events.proofs.Numbers.{numbered_in}
use Rattle.auth_events.proofs.Once.{IsLegalPast-prop}
use Rattle.auth_events.proofs.RoomLemmas.{length-le-room}
use Rattle.auth_events.proofs.Same.{number_refl}
use Rattle.history_laws.proofs.Rooms.{giving_counted}
use Rattle.gift_log.specs.declared.log.Given.{Given}
use Rattle.gift_log.specs.Gifts.{given_by, givings_of, identity_found, source_of}
use Rattle.gift_log.proofs.GivingLemmas.{found_is}
use Rattle.auth_book.proofs.Here.{given_is_named}
use Rattle.auth_book.proofs.Parts.{pushed_length}

few_given : (entries : List Entry) → length (givings_of entries) ≤ length entries
few_given [] = omega arith
few_given (entry ∷ entries) = at (given_by entry) (few_given entries)
  where
    at : (o : Option Given) → length (givings_of entries) ≤ length entries → length (cons_option o (givings_of entries)) ≤ length (entry ∷ entries)
    at None few = omega (arith, few)
    at (Some given) few = omega (arith, few)

-- with what the entry gives
pub givings_with : (entries : List Entry) (entry : Entry) → givings_of (entries ++ entry ∷ []) ≡ givings_of entries ++ option_to_list (given_by entry)
givings_with entries entry = filter_map-append given_by entries (entry ∷ []) ∙ ap (λ xs. givings_of entries ++ xs) (at (given_by entry))
  where
    at : (o : Option Given) → cons_option o [] ≡ option_to_list o
    at None = refl
    at (Some given) = refl

module _ (roster : Roster) (names : Tables) (log : List NewName) (entries : List Entry) (entry : Entry) (kept : ∥ IsKept roster names log (entries ++ entry ∷ []) ∥₁) where
  legal : IsLegalPast roster names (entry ∷ reverse entries)
  legal =
      subst (IsLegalPast roster names) (reverse-append entries (entry ∷ []))
      (∥∥₁_elim kept (IsLegalPast-prop roster names (reverse (entries ++ entry ∷ []))) (λ k. k.legal))

  few : length entries + 1 ≤ 64 * length roster.requests
  few =
      subst (λ n. n ≤ 64 * length roster.requests) (pushed_length entries entry)
      (∥∥₁_elim kept le_prop (λ k. length-le-room (length roster.requests) (entries ++ entry ∷ []) k.pages))

  pub finds_room : (givings : List Given) (room spaces : ℕ) → givings ≡ givings_of entries → 64 * length roster.requests ≤ room → length names.spaces < spaces
      → IfSome (given_by entry) (λ (given : Given). (length givings < room) × (given.gift.space < spaces))
  finds_room givings room spaces are enough known = at (gift_given entry.reply) refl
    where
      at : (o : Option Gift) → gift_given entry.reply ≡ o → IfSome (option_map (λ (gift : Gift). record { gift = gift; source = source_of entry }) o) (λ (given : Given). (length givings < room) × (given.gift.space < spaces))
      at None none = tt
      at (Some gift) its =
          let given : gives entry gift.space ≡ true = ap (λ o. is_of o gift.space) its ∙ number_refl gift.space in
          let named : IsTrue (is_some (numbered names.spaces gift.space)) =
          given_is_named roster names (entry ∷ reverse entries) legal gift.space (omega (arith, giving_counted entry (reverse entries) gift.space, ap (λ b. cond {A = ℕ} b 1 0) given)) in
          let within = (numbered_in names.spaces gift.space named).1 in
          let shorter = few_given entries in
          (omega (arith, ap (λ (xs : List Given). length xs) are, shorter, few, enough), omega (arith, within, known))

-- what is found among the givings of the journal is the identity
pub found_here : (roster : Roster) (names : Tables) (entries : List Entry) (givings : List Given) (gift : Gift) (roster' : Roster) (names' : Tables)
    → givings ≡ givings_of entries → roster' ≡ roster → names' ≡ names
    → identity_found roster' names' givings gift ≡ identity roster names (reverse entries) gift
found_here roster names entries givings gift roster' names' are same_roster same_names =
    ap (λ (rs : Roster). identity_found rs names' givings gift) same_roster
    ∙ (ap (λ (ns : Tables). identity_found roster ns givings gift) same_names
    ∙ (ap (λ (gs : List Given). identity_found roster names gs gift) are ∙ found_is roster names entries gift))
