-- The entries of a request that one caller serves are the calls of its past.
use Rattle.std.proofs.Common.{◌≡◌, ℕ, ◌≤◌, false, ◌==◌, cond, IsTrue, List, [], ◌∷◌, ◌++◌, map, length, refl, sym, ap, ◌∙◌, subst, arith}
use Rattle.std.specs.List.{list_all}
use Rattle.std.proofs.lemmas.List.{append-nil}
use Rattle.spaces.specs.declared.roster.Request.{Request}
use Rattle.spaces.specs.declared.roster.Roster.{Roster}
use Rattle.auth_events.specs.declared.journal.Entry.{Entry}
use Rattle.auth_events.specs.Book.{own}
use Rattle.auth_events.specs.Tables.{Tables}
use Rattle.auth_events.proofs.Same.{number_refl}
use Rattle.auth_runs.specs.declared.event.Event.{Event}
use Rattle.auth_runs.specs.declared.event.Event.TheVariants.{Called}
use Rattle.trace_rule.specs.Entries.{AreEntries, calls, made_in}
use Rattle.trace_rule.specs.Serving.{IsServing}
use Rattle.trace_rule.specs.Settings.{setting_of}
use Rattle.trace_rule.specs.Traces.{IsPast}
use Rattle.trace_rule.proofs.Drops.{entries_bound, spaces_numbered}
use Rattle.serving_laws.specs.Alone.{IsAlone, entries_of}

-- the entries of the request's calls are its own
own_calls : (r : ℕ) (past : List Event) (before : List Entry) → own (entries_of r past ++ before) r ≡ entries_of r past ++ own before r
own_calls r [] before = refl
own_calls r (Called call reply ∷ past) before =
    ap (λ b. cond b (record { caller = 1; request = r; call = call; reply = reply } ∷ own (entries_of r past ++ before) r) (own (entries_of r past ++ before) r)) (number_refl r)
    ∙ ap (λ (l : List Entry). record { caller = 1; request = r; call = call; reply = reply } ∷ l) (own_calls r past before)
own_calls r (_ ∷ past) before = own_calls r past before

pub made_calls : (r : ℕ) (past : List Event) → map made_in (entries_of r past) ≡ calls past
made_calls r [] = refl
made_calls r (Called call reply ∷ past) = ap (λ l. record { call = call; reply = reply } ∷ l) (made_calls r past)
made_calls r (_ ∷ past) = made_calls r past

one_caller : (r : ℕ) (past : List Event) → IsTrue (list_all (λ (entry : Entry). entry.caller == 1) (entries_of r past))
one_caller r [] = refl
one_caller r (Called call reply ∷ past) = one_caller r past
one_caller r (_ ∷ past) = one_caller r past

module _ (roster : Roster) (names : Tables) (before entries : List Entry) (r : ℕ) (request : Request) (past : List Event) (alone : IsAlone roster names before entries r request past) where
  pub own_are : own entries r ≡ entries_of r past
  own_are =
      ap (λ (l : List Entry). own l r) alone.same_calls
      ∙ (own_calls r past before ∙ (ap (λ (l : List Entry). entries_of r past ++ l) alone.unserved ∙ append-nil (entries_of r past)))

  pub are_entries : AreEntries entries r past
  are_entries = ap (map made_in) own_are ∙ made_calls r past

  pub by_one : IsTrue (list_all (λ (entry : Entry). entry.caller == 1) (own entries r))
  by_one = subst (λ (l : List Entry). IsTrue (list_all (λ (entry : Entry). entry.caller == 1) l)) (sym own_are) (one_caller r past)

  -- so the book serves the request
  pub serving : (seed : List ℕ) → IsPast (setting_of roster seed names entries r request) past → IsServing roster names entries 1 r request (setting_of roster seed names entries r request) past
  serving seed run =
      let few : length (own entries r) ≤ 56 = entries_bound (setting_of roster seed names entries r request) (spaces_numbered false roster seed names entries r request) entries r past run are_entries in
      record {
        legal = alone.legal;
        are_names = alone.are_names;
        in_roster = alone.in_roster;
        same_calls = are_entries;
        one_caller = by_one;
        few = omega (arith, few);
        is_past = run;
      }
