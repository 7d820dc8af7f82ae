-- Runs of two requests of one partition for one URL: the second one waits for the first one's prompt, or comes behind it.
use Rattle.std.specs.Prelude.{List, [], ◌∷◌, ◌++◌, codes, take}
use Rattle.spaces.specs.declared.roster.Roster.{Roster}
use Rattle.auth_events.specs.declared.journal.Call.TheVariants.{Select, Answer, Take, Note, End}
use Rattle.auth_events.specs.declared.journal.BookReply.{BookReply}
use Rattle.auth_events.specs.declared.journal.BookReply.TheVariants.{Lead, Follow, Given, Gave, Cancelled, Noted, Ended as RequestEnded}
use Rattle.auth_events.specs.declared.journal.Entry.{Entry}
use Rattle.auth_runs.specs.declared.event.Why.TheVariants.{Cancelled as ByCancel}
use Rattle.auth_runs.specs.declared.event.Outcome.TheVariants.{Answered, Refused}
use Rattle.auth_runs.specs.declared.event.Event.{Event}
use Rattle.auth_runs.specs.declared.event.Event.TheVariants.{Called, Dialed, Headed, Replied, AskedFor, Ended}
use Rattle.link_trait.specs.declared.prompts.AskSeen.TheVariants.{Given as AskGiven}
use Rattle.auth_runs.specs.Runs.{Run}
use Rattle.liars.specs.Session.{first_request, seed, answer, login, space_in, full_head}
use Rattle.liars.specs.Honest.{made, gift, names_of, close, events, begun, prompted, closed, entries}

abbrev pub shared_roster : Roster
shared_roster = record { requests = first_request ∷ first_request ∷ []; allowed = [] }

-- the second request, by the second caller, selects with that reply, and takes that one
abbrev pub waiting : BookReply → List Entry
waiting taken =
    begun 1 1 ++ begun 2 2 ++ take 1 (prompted 1 1) ++ made 2 2 (Select 1 0) (Follow 1)
    ∷ made 1 1 (Answer 1 1 0) (Given (gift 1) 0) ∷ made 2 2 (Take 1) taken ∷ []

abbrev pub waiter : List Event
waiter = take 5 (events 1) ++ Called (Select 1 0) (Follow 1) ∷ []

-- HONEST

-- two callers share a prompt, and the waiter takes its answer
abbrev pub shared : Run
shared = record {
  seed = seed;
  roster = shared_roster;
  names = names_of (space_in (codes "p") ∷ []) (login ∷ []);
  journal = waiting (Gave (gift 1)) ++ closed 1 1 ++ made 2 2 (Note (gift 1)) Noted ∷ made 2 2 End RequestEnded ∷ [];
  traces = events 1 ∷ (waiter ++ Called (Take 1) (Gave (gift 1)) ∷ Dialed 2 ∷ Headed 2 full_head ∷ Replied 2 answer ∷ close 1) ∷ [];
}

-- LIES

-- the waiter is told that the prompt was cancelled
abbrev pub cancelled_for_one : Run
cancelled_for_one =
    record shared {
      journal = waiting Cancelled ++ closed 1 1 ++ made 2 2 End RequestEnded ∷ [];
      traces = events 1 ∷ (waiter ++ Called (Take 1) Cancelled ∷ Called End RequestEnded ∷ Ended (Refused 401 (ByCancel 1)) ∷ []) ∷ [];
    }

-- the waiter doesn't ask for what the prompt gave
abbrev pub not_taken : Run
not_taken = record shared { traces = events 1 ∷ (waiter ++ Dialed 2 ∷ Headed 2 full_head ∷ Replied 2 answer ∷ close 1) ∷ [] }

-- one caller goes on to the second request, and what the first one was given is passed over: the user is asked again
abbrev pub asked_again : Run
asked_again =
    record shared {
      names = names_of (space_in (codes "p") ∷ []) (login ∷ login ∷ []);
      journal = entries 1 1 ++ begun 1 2 ++ made 1 2 (Select 1 0) (Lead 2 2) ∷ made 1 2 (Answer 2 2 0) (Given (record { space = 1; ordinal = 2 }) 0)
          ∷ made 1 2 (Note (record { space = 1; ordinal = 2 })) Noted ∷ made 1 2 End RequestEnded ∷ [];
      traces =
          events 1
          ∷ (take 5 (events 1) ++ Called (Select 1 0) (Lead 2 2) ∷ AskedFor 2 AskGiven ∷ Called (Answer 2 2 0) (Given (record { space = 1; ordinal = 2 }) 0)
          ∷ Dialed 2 ∷ Headed 2 full_head ∷ Replied 2 answer ∷ Called (Note (record { space = 1; ordinal = 2 })) Noted ∷ Called End RequestEnded ∷ Ended (Answered 200) ∷ []) ∷ [];
    }
