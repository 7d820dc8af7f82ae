-- What stands for a prompt, by the past of the request that leads it and by the book's journal.
use Rattle.std.specs.Prelude.{ℕ, ◌≡◌, Bool, IsTrue, List, [], ◌∷◌, ◌++◌, find, reverse, Option, None}
use Rattle.std.specs.List.{list_any}
use Rattle.auth_text.specs.Login.{Login}
use Rattle.spaces.specs.declared.roster.Request.{Request}
use Rattle.spaces.specs.declared.roster.Roster.{Roster}
use Rattle.spaces.specs.ProtectionSpaces.{ProtectionSpace}
use Rattle.auth_events.specs.declared.journal.Entry.{Entry}
use Rattle.auth_events.specs.Book.{IsLegalPast}
use Rattle.auth_events.specs.Tables.{Tables}
use Rattle.link_trait.specs.declared.prompts.Ask.{Ask}
use Rattle.auth_runs.specs.declared.event.Event.{Event}
use Rattle.trace_rule.specs.Heard.{answer_to, leads_to}
use Rattle.trace_rule.specs.Settings.{setting_of}
use Rattle.trace_rule.specs.Telling.{ask_of}
use Rattle.serving_laws.specs.Alone.{entries_of}

-- what stands for the first of the prompts; none is a cancel
abbrev pub answer_of : (ProtectionSpace → ℕ → Option Login) → List Ask → Option Login
answer_of answers [] = None
answer_of answers (ask ∷ asks) = answers ask.space ask.ordinal

-- the request led the prompt
abbrev pub has_led : ℕ → List Event → ℕ → Bool
has_led r past p = list_any (λ entry. leads_to entry.reply p) (entries_of r past)

-- a prompt that one caller's request led is the one that the journal leads: what stands for it by the request's past stands for it by the journal, then and later
abbrev pub PromptsAreTheJournals : Type 0
PromptsAreTheJournals =
    (roster : Roster) → (seed : List ℕ) → (names : Tables) → (later before : List Entry) → (r : ℕ) → (request : Request) → (past : List Event) → (p : ℕ) → (answers : ProtectionSpace → ℕ → Option Login)
    → IsLegalPast roster names (later ++ (entries_of r past ++ before)) → IsTrue (has_led r past p)
    → answer_of answers (ask_of (setting_of roster seed names (later ++ (entries_of r past ++ before)) r request) past p)
    ≡ answer_to answers names (find (λ entry. leads_to entry.reply p) (reverse (later ++ (entries_of r past ++ before))))
