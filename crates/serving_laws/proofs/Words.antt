-- What a draw and a retirement make of the words of one caller.
use Rattle.std.proofs.Common.{◌≡◌, ℕ, zero, suc, ◌+◌, ◌-◌, ◌≤◌, ◌<◌, Bool, true, false, ◌==◌, cond, List, [], ◌∷◌, ◌++◌, length, Option, Some, refl, sym, ap, ◌∙◌, subst, arith, option_map, unwrap_or}
use Rattle.std.specs.Prelude.{All}
use Rattle.std.proofs.lemmas.Bool.{false≢true}
use Rattle.std.proofs.lemmas.Option.{slice_get-get_or}
use Rattle.std.proofs.lemmas.List.{length-set}
use Rattle.std.proofs.lemmas.List.Elements.{All-tail}
use Rattle.std.specs.Prelude.{get_or}
use Rattle.spaces.specs.declared.site.Target.{Target}
use Rattle.spaces.specs.declared.roster.Roster.{Roster}
use Rattle.spaces.specs.Sites.{numbered}
use Rattle.auth_events.specs.declared.journal.BookReply.{BookReply}
use Rattle.auth_events.specs.declared.journal.Call.{Call}
use Rattle.auth_events.specs.declared.journal.Drawn.{Drawn}
use Rattle.auth_events.specs.declared.journal.Entry.{Entry}
use Rattle.auth_events.specs.Book.{IsLegalPast, epoch}
use Rattle.auth_events.specs.Pages.{IsPage}
use Rattle.auth_events.specs.Tables.{Tables}
use Rattle.auth_events.proofs.MoreNames.{Extends, epoch-same}
use Rattle.auth_events.proofs.Same.{number_same}
use Rattle.auth_runs.specs.declared.event.Event.{Event}
use Rattle.auth_runs.specs.declared.event.Event.TheVariants.{Called, Drew}
use Rattle.plain_book.specs.Words.{draws_of, retirements_of, unused, with_draw, with_retirement}
use Rattle.plain_book.specs.Words.Step.{Draw, Retire}
use Rattle.plain_book.proofs.Steps.{one_step, place_of}
use Rattle.serving_laws.specs.Alone.{entries_of}
use Rattle.serving_laws.specs.Draws.{AreEpochs, AreNextDraws, AreWords, with_retired}

abbrev word : ℕ → ℕ → Drawn
word count epoch = record { count = count; epoch = epoch }

abbrev one_if : Bool → ℕ
one_if b = cond b 1 0

abbrev count_in : Option Drawn → ℕ
count_in found = unwrap_or (option_map (λ (w : Drawn). w.count) found) 0

abbrev epoch_in : Option Drawn → ℕ
epoch_in found = unwrap_or (option_map (λ (w : Drawn). w.epoch) found) 0

word_same : (c c' e e' : ℕ) → c ≡ c' → e ≡ e' → Some (word c e) ≡ Some (word c' e')
word_same c c' e e' same_c same_e = ap (λ x. Some (word x e)) same_c ∙ ap (λ x. Some (word c' x)) same_e

word_at : (words : List Drawn) (n : ℕ) → 1 ≤ n → n ≤ length words → numbered words n ≡ Some (word (draws_of words n) (retirements_of words n))
word_at words n low high = is ∙ same (ap count_in is) (ap epoch_in is)
  where
    there : Drawn
    there = get_or words (n - 1) unused

    is : numbered words n ≡ Some there
    is = place_of words n low ∙ slice_get-get_or words (n - 1) unused (omega (arith, low, high))

    same : draws_of words n ≡ there.count → retirements_of words n ≡ there.epoch → Some there ≡ Some (word (draws_of words n) (retirements_of words n))
    same c e = word_same there.count (draws_of words n) there.epoch (retirements_of words n) (sym c) (sym e)

-- A DRAW

module _ (words : List Drawn) (n : ℕ) (low : 1 ≤ n) (high : n ≤ length words) where
  drawn_length : length (with_draw words n) ≡ length words
  drawn_length = length-set words (n - 1) (word (draws_of words n + 1) (retirements_of words n))

  drawn_at : (m : ℕ) → 1 ≤ m → m ≤ length words → numbered (with_draw words n) m ≡ Some (word (one_if (n == m) + draws_of words m) (0 + retirements_of words m))
  drawn_at m from to = one_step words m (draws_of words m) (retirements_of words m) (Draw n) from low (word_at words m from to)

  retired_length : length (with_retirement words n) ≡ length words
  retired_length = length-set words (n - 1) (word (draws_of words n) (retirements_of words n + 1))

  retired_at : (m : ℕ) → 1 ≤ m → m ≤ length words → numbered (with_retirement words n) m ≡ Some (word (0 + draws_of words m) (one_if (n == m) + retirements_of words m))
  retired_at m from to = one_step words m (draws_of words m) (retirements_of words m) (Retire n) from low (word_at words m from to)

-- the words behind a draw
pub drawn_words : (names : Tables) (before entries : List Entry) (first words : List Drawn) (r : ℕ) (past : List Event) (target : Target) (n : ℕ)
    → AreWords names before entries first words r past → entries ≡ entries_of r past ++ before → 1 ≤ n → n ≤ length words
    → AreWords names before entries first (with_draw words n) r (Drew target n (draws_of words n + 1) (retirements_of words n) ∷ past)
drawn_words names before entries first words r past target n w same low high = record {
  as_many = drawn_length words n low high ∙ w.as_many;
  counts = λ m from to.
      let to' : m ≤ length words = omega (arith, to, drawn_length words n low high) in
      let drew : draws_of (with_draw words n) m ≡ one_if (n == m) + draws_of words m = ap count_in (drawn_at words n low high m from to') in
      omega (arith, drew, w.counts m from to');
  epochs = λ m from to.
      let to' : m ≤ length words = omega (arith, to, drawn_length words n low high) in
      let kept : retirements_of (with_draw words n) m ≡ 0 + retirements_of words m = ap epoch_in (drawn_at words n low high m from to') in
      omega (arith, kept, w.epochs m from to');
  draws = (
    w.draws,
    ap (λ k. k + 1) (w.counts n low high),
    w.epochs n low high ∙ ap (λ (l : List Entry). epoch names l n) same,
  );
}

-- A CALL

not_zero : (n : ℕ) → (n == 0) ≡ false → 1 ≤ n
not_zero zero is = absurd (false≢true (sym is))
not_zero (suc n) is = omega arith

module _ (words : List Drawn) (out : ℕ) (within : out ≤ length words) where
  pub as_long : length (with_retired words out) ≡ length words
  as_long = at (out == 0) refl
    where
      at : (b : Bool) → (out == 0) ≡ b → length (cond b words (with_retirement words out)) ≡ length words
      at true is = refl
      at false is = retired_length words out (not_zero out is) within

  -- no count changes
  pub counts_stay : (n : ℕ) → 1 ≤ n → n ≤ length words → draws_of (with_retired words out) n ≡ draws_of words n
  counts_stay n from to = at (out == 0) refl
    where
      at : (b : Bool) → (out == 0) ≡ b → draws_of (cond b words (with_retirement words out)) n ≡ draws_of words n
      at true is = refl
      at false is =
          let kept : draws_of (with_retirement words out) n ≡ 0 + draws_of words n = ap count_in (retired_at words out (not_zero out is) within n from to) in
          omega (arith, kept)

  -- the epoch of the nonce that was taken out rises, and no other does
  pub epochs_rise : (n : ℕ) → 1 ≤ n → n ≤ length words → retirements_of (with_retired words out) n ≡ retirements_of words n + one_if (out == n)
  epochs_rise n from to = at (out == 0) refl
    where
      none : (b : Bool) → (out == 0) ≡ true → (out == n) ≡ b → one_if b ≡ 0
      none false is other = refl
      none true is same = absurd (omega (arith, from, number_same out 0 is, number_same out n same))

      at : (b : Bool) → (out == 0) ≡ b → retirements_of (cond b words (with_retirement words out)) n ≡ retirements_of words n + one_if (out == n)
      at true is = omega (arith, none (out == n) is refl)
      at false is =
          let raised : retirements_of (with_retirement words out) n ≡ one_if (out == n) + retirements_of words n = ap epoch_in (retired_at words out (not_zero out is) within n from to) in
          omega (arith, raised)

  -- so the words have the epochs of the entries behind it
  pub epochs_behind : (names : Tables) (entries later : List Entry) → ((n : ℕ) → 0 < n → epoch names later n ≡ epoch names entries n + one_if (out == n))
      → AreEpochs names entries words → AreEpochs names later (with_retired words out)
  epochs_behind names entries later rise are n from to =
      let to' : n ≤ length words = omega (arith, to, as_long) in
      omega (arith, epochs_rise n from to', are n from to', rise n (omega (arith, from)))

-- the words behind a call
pub called_words : (names : Tables) (before entries later : List Entry) (first words : List Drawn) (r : ℕ) (past : List Event) (call : Call) (reply : BookReply) (out : ℕ)
    → AreWords names before entries first words r past → out ≤ length words → ((n : ℕ) → 0 < n → epoch names later n ≡ epoch names entries n + one_if (out == n))
    → AreWords names before later first (with_retired words out) r (Called call reply ∷ past)
called_words names before entries later first words r past call reply out w within rise = record {
  as_many = as_long words out within ∙ w.as_many;
  counts = λ n from to.
      let to' : n ≤ length words = omega (arith, to, as_long words out within) in
      counts_stay words out within n from to' ∙ w.counts n from to';
  epochs = epochs_behind words out within names entries later rise w.epochs;
  draws = w.draws;
}

-- MORE NAMES

-- draws stay what they are where more is named
module _ (roster : Roster) (names more : Tables) (ext : Extends names more) (before : List Entry) (first : List Drawn) (r requests : ℕ) where
  draws_stay : (past : List Event) → IsLegalPast roster names (entries_of r past ++ before) → All (IsPage requests) (entries_of r past ++ before)
      → AreNextDraws names before first r past → AreNextDraws more before first r past
  draws_stay [] legal pages d = tt
  draws_stay (Called call reply ∷ past) legal pages d =
      draws_stay past legal.0 (All-tail (IsPage requests) (record { caller = 1; request = r; call = call; reply = reply }) (entries_of r past ++ before) pages) d
  draws_stay (Drew target nonce count at ∷ past) legal pages d =
      (draws_stay past legal pages d.0, d.1, d.2 ∙ epoch-same roster names more ext requests (entries_of r past ++ before) pages legal nonce)
  draws_stay (_ ∷ past) legal pages d = draws_stay past legal pages d

  pub words_stay : (entries : List Entry) (words : List Drawn) (past : List Event) → entries ≡ entries_of r past ++ before → IsLegalPast roster names entries → All (IsPage requests) entries
      → AreWords names before entries first words r past → AreWords more before entries first words r past
  words_stay entries words past same legal pages w = record {
    as_many = w.as_many;
    counts = w.counts;
    epochs = λ n from to. w.epochs n from to ∙ epoch-same roster names more ext requests entries pages legal n;
    draws = draws_stay past (subst (IsLegalPast roster names) same legal) (subst (All (IsPage requests)) same pages) w.draws;
  }
