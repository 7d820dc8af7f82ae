-- The givings of a journal tell whose credentials its gifts are.
use Rattle.std.proofs.Common.{◌≡◌, Bool, true, false, cond, List, [], ◌∷◌, ◌++◌, reverse, refl, ap, sym, ◌∙◌, Option, Some, None}
use Rattle.std.specs.Prelude.{find, option_and_then, option_map}
use Rattle.std.proofs.lemmas.List.{reverse-append}
use Rattle.std.proofs.lemmas.List.Elements.{filter_map-append}
use Rattle.std.specs.List.{cons_option}
use Rattle.spaces.specs.declared.roster.Roster.{Roster}
use Rattle.auth_events.specs.declared.journal.Entry.{Entry}
use Rattle.auth_events.specs.declared.journal.Gift.{Gift}
use Rattle.auth_events.specs.Tables.{Tables}
use Rattle.auth_events.specs.Past.{gift_given}
use Rattle.auth_events.specs.Book.{is_that_gift, is_url, same_gift}
use Rattle.auth_events.specs.Identities.{giving, identity, identity_given}
use Rattle.gift_log.specs.declared.log.Given.{Given}
use Rattle.gift_log.specs.declared.log.Source.{Source}
use Rattle.gift_log.specs.Gifts.{given_by, givings_of, identity_at, identity_found, source_of}

reverse_option : (o : Option Given) → reverse (cons_option o []) ≡ cons_option o []
reverse_option None = refl
reverse_option (Some given) = refl

-- the givings of a past are those of the history, the latest first
givings_back : (entries : List Entry) → reverse (givings_of entries) ≡ givings_of (reverse entries)
givings_back [] = refl
givings_back (entry ∷ entries) =
    at (given_by entry)
    ∙ (ap (λ xs. xs ++ cons_option (given_by entry) []) (givings_back entries)
    ∙ (sym (filter_map-append given_by (reverse entries) (entry ∷ [])) ∙ ap givings_of (sym (reverse-append (entry ∷ []) entries))))
  where
    at : (o : Option Given) → reverse (cons_option o (givings_of entries)) ≡ reverse (givings_of entries) ++ cons_option o []
    at None = sym (append_nil (reverse (givings_of entries)))
      where
        append_nil : (xs : List Given) → xs ++ [] ≡ xs
        append_nil [] = refl
        append_nil (x ∷ xs) = ap (λ l. x ∷ l) (append_nil xs)
    at (Some given) = reverse-append (given ∷ []) (givings_of entries)

module _ (roster : Roster) (names : Tables) where
  abbrev at_given : Option Given → Option Source
  at_given o = option_map (λ (given : Given). given.source) o

  -- what an entry gives is at its source
  same_source : (entry : Entry) → identity_given roster names entry ≡ identity_at roster names (source_of entry)
  same_source entry = by (is_url entry.reply) refl
    where
      by : (b : Bool) → is_url entry.reply ≡ b → identity_given roster names entry ≡ identity_at roster names (source_of entry)
      by true is = rw is refl
      by false is = rw is refl

  found : (gift : Gift) (past : List Entry) → option_and_then (identity_at roster names) (at_given (find (λ given. same_gift given.gift gift) (givings_of past))) ≡ identity roster names past gift
  found gift [] = refl
  found gift (entry ∷ past) = at (gift_given entry.reply) (found gift past)
    where
      at : (o : Option Gift) → option_and_then (identity_at roster names) (at_given (find (λ given. same_gift given.gift gift) (givings_of past))) ≡ identity roster names past gift
          → option_and_then (identity_at roster names) (at_given (find (λ given. same_gift given.gift gift) (cons_option (option_map (λ (one : Gift). record { gift = one; source = source_of entry }) o) (givings_of past))))
          ≡ option_and_then (identity_given roster names) (cond (is_that_gift o gift) (Some entry) (giving past gift))
      at None before = before
      at (Some one) before = of (same_gift one gift)
        where
          of : (b : Bool) → option_and_then (identity_at roster names) (at_given (cond b (Some (record { gift = one; source = source_of entry })) (find (λ given. same_gift given.gift gift) (givings_of past))))
              ≡ option_and_then (identity_given roster names) (cond b (Some entry) (giving past gift))
          of true = sym (same_source entry)
          of false = before

  pub found_is : (entries : List Entry) (gift : Gift) → identity_found roster names (givings_of entries) gift ≡ identity roster names (reverse entries) gift
  found_is entries gift =
      ap (λ xs. option_and_then (identity_at roster names) (at_given (find (λ given. same_gift given.gift gift) xs))) (givings_back entries)
      ∙ found gift (reverse entries)
