-- What the book and the words say of a past rests on its calls and draws alone.
use Rattle.std.proofs.Common.{◌≡◌, ℕ, ◌+◌, ◌≤◌, ◌==◌, List, [], ◌∷◌, ◌++◌, length, refl, sym, ap, ◌∙◌, subst, if◌then◌else◌}
use Rattle.std.specs.Prelude.{is_some}
use Rattle.spaces.specs.declared.roster.Request.{Request}
use Rattle.spaces.specs.declared.roster.Roster.{Roster}
use Rattle.auth_events.specs.declared.journal.Drawn.{Drawn}
use Rattle.auth_events.specs.declared.journal.Entry.{Entry}
use Rattle.auth_events.specs.declared.told.Told.{Told}
use Rattle.auth_events.specs.Book.{epoch}
use Rattle.auth_events.specs.Tables.{Tables}
use Rattle.auth_events.specs.Told.{names_told, past}
use Rattle.auth_runs.specs.declared.event.Event.{Event}
use Rattle.auth_runs.specs.declared.event.Event.TheVariants.{Called, Drew}
use Rattle.plain_book.specs.Words.{draws_of}
use Rattle.trace_laws.specs.Lengths.{gives_terms, terms_given}
use Rattle.request_machine.specs.Driven.{insides}
use Rattle.serving_laws.specs.Alone.{entries_of}
use Rattle.serving_laws.specs.Draws.{AreNextDraws, times_drawn}
use Rattle.serving_laws.specs.Meeting.{AreMetWith, Pending}
use Rattle.serving_laws.specs.Rooms.{HasNamed}
use Rattle.serving_laws.specs.Service.{IsServed}
use Rattle.serving_laws.proofs.Open.{alike}

entries_inside : (r : ℕ) (past : List Event) → entries_of r (insides past) ≡ entries_of r past
entries_inside r [] = refl
entries_inside r (Called call reply ∷ past) = ap (λ (l : List Entry). record { caller = 1; request = r; call = call; reply = reply } ∷ l) (entries_inside r past)
entries_inside r (Drew target nonce count at ∷ past) = entries_inside r past
entries_inside r (_ ∷ past) = entries_inside r past

draws_inside : (n : ℕ) (past : List Event) → times_drawn (insides past) n ≡ times_drawn past n
draws_inside n [] = refl
draws_inside n (Called call reply ∷ past) = draws_inside n past
draws_inside n (Drew target nonce count at ∷ past) = ap (λ k. (if nonce == n then 1 else 0) + k) (draws_inside n past)
draws_inside n (_ ∷ past) = draws_inside n past

terms_inside : (past : List Event) → terms_given (insides past) ≡ terms_given past
terms_inside [] = refl
terms_inside (Called call reply ∷ past) = ap (λ k. (if gives_terms call then 1 else 0) + k) (terms_inside past)
terms_inside (Drew target nonce count at ∷ past) = terms_inside past
terms_inside (_ ∷ past) = terms_inside past

module _ (names : Tables) (before : List Entry) (first : List Drawn) (r : ℕ) where
  into : (past : List Event) → AreNextDraws names before first r past → AreNextDraws names before first r (insides past)
  into [] d = d
  into (Called call reply ∷ past) d = into past d
  into (Drew target nonce count at ∷ past) d = (
    into past d.0,
    d.1 ∙ ap (λ k. draws_of first nonce + k + 1) (sym (draws_inside nonce past)),
    d.2 ∙ ap (λ l. epoch names (l ++ before) nonce) (sym (entries_inside r past)),
  )
  into (_ ∷ past) d = into past d

  out_of : (past : List Event) → AreNextDraws names before first r (insides past) → AreNextDraws names before first r past
  out_of [] d = d
  out_of (Called call reply ∷ past) d = out_of past d
  out_of (Drew target nonce count at ∷ past) d = (
    out_of past d.0,
    d.1 ∙ ap (λ k. draws_of first nonce + k + 1) (draws_inside nonce past),
    d.2 ∙ ap (λ l. epoch names (l ++ before) nonce) (entries_inside r past),
  )
  out_of (_ ∷ past) d = out_of past d

module _ (r : ℕ) (old now : List Event) (same : insides old ≡ insides now) where
  entries_same : entries_of r old ≡ entries_of r now
  entries_same = sym (entries_inside r old) ∙ (ap (entries_of r) same ∙ entries_inside r now)

  draws_same : (n : ℕ) → times_drawn old n ≡ times_drawn now n
  draws_same n = sym (draws_inside n old) ∙ (ap (λ l. times_drawn l n) same ∙ draws_inside n now)

  terms_same : terms_given old ≡ terms_given now
  terms_same = sym (terms_inside old) ∙ (ap terms_given same ∙ terms_inside now)

pub inside_served : (roster : Roster) (before told : List Told) (first words : List Drawn) (r : ℕ) (request : Request) (old now : List Event) → insides old ≡ insides now
    → IsServed roster before told first words r request old → IsServed roster before told first words r request now
inside_served roster before told first words r request old now same served = record {
  grown = served.grown;
  alone = alike roster (names_told told) (past before) r request (past told) old now (entries_same r old now same) served.alone;
  as_many = served.as_many;
  drawn = record {
    as_many = served.drawn.as_many;
    counts = λ n from to. served.drawn.counts n from to ∙ ap (λ k. draws_of first n + k) (draws_same r old now same n);
    epochs = served.drawn.epochs;
    draws = out_of (names_told told) (past before) first r now (subst (AreNextDraws (names_told told) (past before) first r) same (into (names_told told) (past before) first r old served.drawn.draws));
  };
}

pub inside_named : (old names : Tables) (r : ℕ) (before now : List Event) (pending : Pending) → insides before ≡ insides now
    → HasNamed old names r before pending → HasNamed old names r now pending
inside_named old names r before now pending same has = record {
  met = subst (λ l. AreMetWith old names l pending) (entries_same r before now same) has.met;
  nonces = subst (λ k. length names.nonces ≤ length old.nonces + (k + (if is_some pending.terms then 1 else 0))) (terms_same r before now same) has.nonces;
}
