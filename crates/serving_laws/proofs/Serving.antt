-- A request of one caller that goes on: by a call, a name, a draw, or what neither the book nor the words know of.
use Rattle.std.proofs.Common.{◌≡◌, ◌⊎◌, inl, inr, ℕ, ◌+◌, ◌≤◌, ◌<◌, Bool, true, false, not, ◌==◌, ◌&&◌, cond, IsTrue, List, [], ◌∷◌, ◌++◌, length, reverse, Option, Some, None, refl, sym, ap, ◌∙◌, subst, arith}
use Rattle.std.specs.Prelude.{All}
use Rattle.std.specs.List.{cons_option, list_all}
use Rattle.std.proofs.lemmas.Bool.{false≢true}
use Rattle.std.proofs.lemmas.List.{append-nil, append_assoc}
use Rattle.std.proofs.lemmas.List.Elements.{All-append, All-cons, All-nil, filter_map-append}
use Rattle.std.proofs.lemmas.List.Sums.{fold-append}
use Rattle.spaces.specs.declared.roster.Request.{Request}
use Rattle.spaces.specs.declared.roster.Roster.{Roster}
use Rattle.spaces.specs.declared.site.Target.{Target}
use Rattle.auth_events.specs.declared.journal.BookReply.{BookReply}
use Rattle.auth_events.specs.declared.journal.Call.{Call}
use Rattle.auth_events.specs.declared.journal.Drawn.{Drawn}
use Rattle.auth_events.specs.declared.journal.Entry.{Entry}
use Rattle.auth_events.specs.declared.told.Told.{Told}
use Rattle.auth_events.specs.declared.told.Told.TheVariants.{Made}
use Rattle.auth_events.specs.Book.{IsLegalPast, epoch}
use Rattle.auth_events.specs.Pages.{IsPage}
use Rattle.auth_events.specs.Tables.{AreNames, Tables, no_names}
use Rattle.auth_events.specs.Told.{entry_told, is_pending, journal, names_told, past, retired_by, told_after, with_told}
use Rattle.auth_events.proofs.Legal.{All-reverse}
use Rattle.auth_events.proofs.Numbers.{and_left, and_right}
use Rattle.auth_runs.specs.declared.event.Event.{Event}
use Rattle.auth_runs.specs.declared.event.Event.TheVariants.{Called, Drew}
use Rattle.book_laws.specs.Owners.{AddsOwn, maker}
use Rattle.book_laws.proofs.Growing.{grow_told}
use Rattle.book_laws.proofs.Lifting.{extends_more, past-append}
use Rattle.book_laws.proofs.Stepping.{epochs_after, past-push}
use Rattle.plain_book.specs.Words.{draws_of, retirements_of, with_draw}
use Rattle.trace_laws.specs.Answering.{made}
use Rattle.trace_rule.specs.Growing.{NamesGrow}
use Rattle.trace_rule.specs.Settings.{Setting}
use Rattle.serving_laws.specs.Alone.{IsAlone, entries_of}
use Rattle.serving_laws.specs.Draws.{AreNextDraws, AreWords, times_drawn, with_retired}
use Rattle.serving_laws.specs.Knowing.{KnowsBook}
use Rattle.serving_laws.specs.Service.{IsServed, is_outside}
use Rattle.serving_laws.proofs.Knowing.{knew_before}
use Rattle.serving_laws.proofs.Open.{alike}
use Rattle.serving_laws.proofs.Words.{as_long, called_words, drawn_words, words_stay}

-- TOLD LISTS

names_made : (told : List Told) (entry : Entry) → names_told (told ++ Made entry ∷ []) ≡ names_told told
names_made told entry = fold-append with_told no_names told (Made entry ∷ [])

journal_same : (told : List Told) (item : Told) → entry_told item ≡ None → journal (told ++ item ∷ []) ≡ journal told
journal_same told item none = filter_map-append entry_told told (item ∷ []) ∙ (ap (λ (o : Option Entry). journal told ++ cons_option o []) none ∙ append-nil (journal told))

adds_item : (before told : List Told) (item : Told) → AddsOwn 1 before told → maker item ≡ 1 → AddsOwn 1 before (told ++ item ∷ [])
adds_item before told item adds own = record {
  items = adds.items ++ item ∷ [];
  grows = sym (append_assoc before adds.items (item ∷ [])) ∙ ap (λ (l : List Told). l ++ item ∷ []) adds.grows;
  own = All-append (λ (i : Told). maker i ≡ 1) adds.items (item ∷ []) adds.own (All-cons (λ (i : Told). maker i ≡ 1) item [] own (All-nil (λ (i : Told). maker i ≡ 1)));
}

-- WHAT IS KNOWN

-- who knows what the book tells later knows what it told
pub known_still : (roster : Roster) (seed : List ℕ) (told more : List Told) (r : ℕ) (request : Request) (s : Setting)
    → AddsOwn 1 told more → IsLegalPast roster (names_told more) (past more)
    → KnowsBook roster seed (names_told more) (past more) r request s → KnowsBook roster seed (names_told told) (past told) r request s
known_still roster seed told more r request s adds legal k =
    by adds.items (sym adds.grows)
  where
    by : (items : List Told) → more ≡ told ++ items → KnowsBook roster seed (names_told told) (past told) r request s
    by items same =
        let grow = grow_told told items in
        knew_before roster seed (names_told told) (names_told (told ++ items)) (past items) (past told) r request s
        (record { new_spaces = grow.new_spaces; new_terms = grow.new_terms; new_texts = grow.new_texts; spaces = grow.spaces; terms = grow.terms; texts = grow.texts })
        (subst (IsLegalPast roster (names_told (told ++ items))) (past-append told items) (subst (λ (l : List Told). IsLegalPast roster (names_told l) (past l)) same legal))
        (subst (λ (l : List Entry). KnowsBook roster seed (names_told (told ++ items)) l r request s) (past-append told items) (subst (λ (l : List Told). KnowsBook roster seed (names_told l) (past l) r request s) same k))

module _ (roster : Roster) (before : List Told) (first : List Drawn) (r : ℕ) (request : Request) where
  abbrev Served : List Told → List Drawn → List Event → Type 0
  Served told words events = IsServed roster before told first words r request events

  -- A CALL

  pub called_served : (told more : List Told) (words : List Drawn) (events : List Event) (call : Call) (reply : BookReply) (out : ℕ)
      → Served told words events → more ≡ told_after told (made 1 r call reply) → is_pending reply ≡ false → out ≡ retired_by (names_told told) (past told) (made 1 r call reply) → out ≤ length words
      → IsLegalPast roster (names_told more) (past more) → Served more (with_retired words out) (Called call reply ∷ events)
  called_served told more words events call reply out served after done out_is within legal =
      record {
        grown = subst (AddsOwn 1 before) (sym pushed) (adds_item before told (Made entry) served.grown refl);
        alone = record {
          legal = legal;
          are_names = subst AreNames (sym names_same) served.alone.are_names;
          in_roster = served.alone.in_roster;
          same_calls = past_is ∙ ap (λ (l : List Entry). entry ∷ l) served.alone.same_calls;
          unserved = served.alone.unserved;
          none_open = served.alone.none_open;
        };
        as_many = as_long words out within ∙ served.as_many;
        drawn = subst (λ (t : Tables). AreWords t (past before) (past more) first (with_retired words out) r (Called call reply ∷ events)) (sym names_same)
            (called_words (names_told told) (past before) (past told) (past more) first words r events call reply out served.drawn within
            (λ n some. epochs_after (names_told told) told more entry out after out_is roster (subst (λ (t : Tables). IsLegalPast roster t (past more)) names_same legal) n some));
      }
    where
      entry : Entry
      entry = made 1 r call reply

      pushed : more ≡ told ++ Made entry ∷ []
      pushed = after ∙ ap (λ b. cond b told (told ++ Made entry ∷ [])) done

      names_same : names_told more ≡ names_told told
      names_same = ap names_told pushed ∙ names_made told entry

      past_is : past more ≡ entry ∷ past told
      past_is = ap past pushed ∙ past-push told entry

  -- A NAME

  pub named_served : (told more : List Told) (item : Told) (words : List Drawn) (events : List Event) (requests : ℕ)
      → Served told words events → more ≡ told ++ item ∷ [] → entry_told item ≡ None → maker item ≡ 1
      → All (IsPage requests) (journal told) → IsLegalPast roster (names_told more) (past more) → AreNames (names_told more) → Served more words events
  named_served told more item words events requests served pushed none own pages legal are_names = record {
    grown = subst (AddsOwn 1 before) (sym pushed) (adds_item before told item served.grown own);
    alone = record {
      legal = legal;
      are_names = are_names;
      in_roster = served.alone.in_roster;
      same_calls = past_same ∙ served.alone.same_calls;
      unserved = served.alone.unserved;
      none_open = served.alone.none_open;
    };
    as_many = served.as_many;
    drawn = subst (λ (l : List Entry). AreWords (names_told more) (past before) l first words r events) (sym past_same)
        (subst (λ (l : List Told). AreWords (names_told l) (past before) (past told) first words r events) (sym pushed)
        (words_stay roster (names_told told) (names_told (told ++ item ∷ [])) (extends_more told (item ∷ [])) (past before) first r requests (past told) words events served.alone.same_calls served.alone.legal
        (All-reverse (IsPage requests) (journal told) pages) served.drawn));
  }
    where
      past_same : past more ≡ past told
      past_same = ap past pushed ∙ ap reverse (journal_same told item none)

  -- A DRAW

  pub drawn_served : (told : List Told) (words : List Drawn) (events : List Event) (target : Target) (n : ℕ)
      → Served told words events → 1 ≤ n → n ≤ length words → Served told (with_draw words n) (Drew target n (draws_of words n + 1) (retirements_of words n) ∷ events)
  drawn_served told words events target n served low high =
      let drawn = drawn_words (names_told told) (past before) (past told) first words r events target n served.drawn served.alone.same_calls low high in
      record {
        grown = served.grown;
        alone = alike roster (names_told told) (past before) r request (past told) events (Drew target n (draws_of words n + 1) (retirements_of words n) ∷ events) refl served.alone;
        as_many = drawn.as_many ∙ (sym served.drawn.as_many ∙ served.as_many);
        drawn = drawn;
      }

  -- WHAT THEY DON'T KNOW OF

  pub outside_entries : (more events : List Event) → IsTrue (list_all is_outside more) → entries_of r (more ++ events) ≡ entries_of r events
  outside_entries [] events out = refl
  outside_entries (Called call reply ∷ more) events out = absurd (false≢true out)
  outside_entries (Drew target nonce count at ∷ more) events out = absurd (false≢true out)
  outside_entries (_ ∷ more) events out = outside_entries more events out

  outside_draws : (more events : List Event) → IsTrue (list_all is_outside more) → (n : ℕ) → times_drawn (more ++ events) n ≡ times_drawn events n
  outside_draws [] events out n = refl
  outside_draws (Called call reply ∷ more) events out n = absurd (false≢true out)
  outside_draws (Drew target nonce count at ∷ more) events out n = absurd (false≢true out)
  outside_draws (_ ∷ more) events out n = outside_draws more events out n

  outside_next : (names : Tables) (more events : List Event) → IsTrue (list_all is_outside more) → AreNextDraws names (past before) first r events → AreNextDraws names (past before) first r (more ++ events)
  outside_next names [] events out d = d
  outside_next names (Called call reply ∷ more) events out d = absurd (false≢true out)
  outside_next names (Drew target nonce count at ∷ more) events out d = absurd (false≢true out)
  outside_next names (_ ∷ more) events out d = outside_next names more events out d

  pub outside_served : (told : List Told) (words : List Drawn) (more events : List Event) → Served told words events → IsTrue (list_all is_outside more) → Served told words (more ++ events)
  outside_served told words more events served out = record {
    grown = served.grown;
    alone = alike roster (names_told told) (past before) r request (past told) events (more ++ events) (sym (outside_entries more events out)) served.alone;
    as_many = served.as_many;
    drawn = record {
      as_many = served.drawn.as_many;
      counts = λ n from to. served.drawn.counts n from to ∙ ap (λ k. draws_of first n + k) (sym (outside_draws more events out n));
      epochs = served.drawn.epochs;
      draws = outside_next (names_told told) more events out served.drawn.draws;
    };
  }
