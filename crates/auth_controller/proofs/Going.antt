-- A machine that is served goes on: by a name, a count, what the book tells of it, or what it does by itself.
use Rattle.std.proofs.Common.{◌≡◌, ℕ, ◌+◌, ◌≤◌, IsTrue, List, [], ◌∷◌, ◌++◌, length, refl, sym, ap, ◌∙◌, subst}
use Rattle.std.specs.Prelude.{All, None, Some}
use Rattle.std.proofs.lemmas.List.Elements.{All-cons, All-nil}
use Rattle.spaces.specs.declared.roster.Request.{Request}
use Rattle.spaces.specs.declared.roster.Roster.{Roster}
use Rattle.spaces.specs.declared.site.Target.{Target}
use Rattle.spaces.specs.Sites.{numbered}
use Rattle.auth_events.specs.declared.journal.Drawn.{Drawn}
use Rattle.auth_events.specs.declared.told.Told.{Told}
use Rattle.auth_events.specs.Book.{IsLegalPast}
use Rattle.auth_events.specs.Pages.{IsPage}
use Rattle.auth_events.specs.Tables.{AreFew, AreNames}
use Rattle.auth_events.specs.Told.{entry_told, journal, names_told, past}
use Rattle.auth_runs.specs.declared.event.Event.{Event}
use Rattle.auth_runs.specs.declared.event.Event.TheVariants.{Drew}
use Rattle.book_laws.specs.Owners.{AddsOwn, maker}
use Rattle.plain_book.specs.Words.{draws_of, retirements_of, with_draw}
use Rattle.trace_rule.specs.Settings.{Setting}
use Rattle.serving_laws.specs.Knowing.{KnowsBook}
use Rattle.serving_laws.specs.Rooms.{HasNamed, begun}
use Rattle.serving_laws.specs.Service.{IsServed}
use Rattle.serving_laws.proofs.Serving.{drawn_served, known_still, named_served}
use Rattle.request_machine.specs.Driven.{insides}
use Rattle.request_machine.specs.Kept.{IsSettingOf, Kept, Ties}
use Rattle.auth_controller.specs.Given.{IsSameRequest}
use Rattle.auth_controller.proofs.Insides.{inside_named, inside_served}
use Rattle.auth_controller.specs.Serving.{IsServing, has_memory, pending_at}

-- a setting that knows the book is one of the numbered request
pub setting_known : (roster : Roster) (told : List Told) (request : Request) (m : Kept) (s : Setting) → numbered roster.requests m.number ≡ Some request
    → KnowsBook roster m.seed (names_told told) (past told) m.number request s → IsSettingOf s roster m.number m.seed
setting_known roster told request m s in_roster k = record {
  same_number = k.same_number;
  is_request = in_roster ∙ ap Some (sym k.same_request);
  same_seed = k.same_seed;
  passes_over = k.no_negotiate;
}

module _ (roster : Roster) (before told : List Told) (first words : List Drawn) (request : Request) (m n : Kept) (serving : IsServing roster before told first words request m) (same : IsSameRequest m n) where
  abbrev Knows : List Told → Setting → Type 0
  Knows now s = KnowsBook roster m.seed (names_told now) (past now) m.number request s

  knew : (now : List Told) (s : Setting) → KnowsBook roster n.seed (names_told now) (past now) n.number request s → Knows now s
  knew now s k = subst (λ x. KnowsBook roster m.seed (names_told now) (past now) x request s) same.number (subst (λ x. KnowsBook roster x (names_told now) (past now) n.number request s) same.seed k)

  served_so : (now : List Told) (later : List Drawn) (events : List Event) → n.past ≡ events → IsServed roster before now first later m.number request events → IsServed roster before now first later n.number request n.past
  served_so now later events is served = subst (λ l. IsServed roster before now first later n.number request l) (sym is) (subst (λ x. IsServed roster before now first later x request events) (sym same.number) served)

  named_so : (now : List Told) (events : List Event) → n.past ≡ events → HasNamed (names_told before) (names_told now) m.number events (pending_at n.stage) → HasNamed (names_told before) (names_told now) n.number n.past (pending_at n.stage)
  named_so now events is has = subst (λ l. HasNamed (names_told before) (names_told now) n.number l (pending_at n.stage)) (sym is) (subst (λ x. HasNamed (names_told before) (names_told now) x events (pending_at n.stage)) (sym same.number) has)

  -- WHAT THE BOOK TELLS OF IT

  -- its past is the same
  pub told_serving : n.past ≡ m.past → ((s : Setting) → Knows told s → Ties s m → Ties s n)
      → (IsTrue (has_memory n.stage n.past) → HasNamed (names_told before) (names_told told) m.number m.past (pending_at n.stage)) → IsServing roster before told first words request n
  told_serving is ties named = record {
    served = served_so told words m.past is serving.served;
    known = λ s k. (let k' = knew told s k in ties s k' (serving.known s k'));
    few_before = serving.few_before;
    few_draws = serving.few_draws;
    few = serving.few;
    named = λ u. named_so told m.past is (named u);
  }

  -- A NAME

  pub named_serving : (more : List Told) (item : Told) (requests : ℕ) → n.past ≡ m.past → more ≡ told ++ item ∷ [] → entry_told item ≡ None → maker item ≡ 1
      → All (IsPage requests) (journal told) → IsLegalPast roster (names_told more) (past more) → AreNames (names_told more)
      → ((s : Setting) → Knows more s → Ties s m → Ties s n)
      → AreFew (begun (past before) + 1) (names_told more)
      → (IsTrue (has_memory n.stage n.past) → HasNamed (names_told before) (names_told more) m.number m.past (pending_at n.stage)) → IsServing roster before more first words request n
  named_serving more item requests is pushed none own pages legal are_names ties few named = record {
    served = served_so more words m.past is (named_served roster before first m.number request told more item words m.past requests serving.served pushed none own pages legal are_names);
    known = λ s k. (let k' = knew more s k in ties s k' (serving.known s (known_still roster m.seed told more m.number request s adds legal k')));
    few_before = serving.few_before;
    few_draws = serving.few_draws;
    few = few;
    named = λ u. named_so more m.past is (named u);
  }
    where
      adds : AddsOwn 1 told more
      adds = record { items = item ∷ []; grows = sym pushed; own = All-cons (λ (i : Told). maker i ≡ 1) item [] own (All-nil (λ (i : Told). maker i ≡ 1)) }

  -- A COUNT

  pub drawn_serving : (target : Target) (nonce : ℕ) → n.past ≡ Drew target nonce (draws_of words nonce + 1) (retirements_of words nonce) ∷ m.past → 1 ≤ nonce → nonce ≤ length words
      → ((s : Setting) → Ties s m → Ties s n)
      → (IsTrue (has_memory n.stage n.past) → HasNamed (names_told before) (names_told told) m.number (Drew target nonce (draws_of words nonce + 1) (retirements_of words nonce) ∷ m.past) (pending_at n.stage))
      → IsServing roster before told first (with_draw words nonce) request n
  drawn_serving target nonce is low high ties named = record {
    served = served_so told (with_draw words nonce) (Drew target nonce (draws_of words nonce + 1) (retirements_of words nonce) ∷ m.past) is (drawn_served roster before first m.number request told words m.past target nonce serving.served low high);
    known = λ s k. ties s (serving.known s (knew told s k));
    few_before = serving.few_before;
    few_draws = serving.few_draws;
    few = serving.few;
    named = λ u. named_so told (Drew target nonce (draws_of words nonce + 1) (retirements_of words nonce) ∷ m.past) is (named u);
  }

  -- WHAT IT DOES BY ITSELF

  pub gone_serving : insides n.past ≡ insides m.past
      → ((s : Setting) → IsSettingOf s roster m.number m.seed → Ties s m → Ties s n)
      → (IsTrue (has_memory n.stage n.past) → HasNamed (names_told before) (names_told told) m.number m.past (pending_at n.stage)) → IsServing roster before told first words request n
  gone_serving same_inside ties named = record {
    served = served_so told words n.past refl (inside_served roster before told first words m.number request m.past n.past (sym same_inside) serving.served);
    known = λ s k. (let k' = knew told s k in ties s (setting_known roster told request m s serving.served.alone.in_roster k') (serving.known s k'));
    few_before = serving.few_before;
    few = serving.few;
    few_draws = serving.few_draws;
    named = λ u. named_so told n.past refl (inside_named (names_told before) (names_told told) m.number m.past n.past (pending_at n.stage) (sym same_inside) (named u));
  }
