-- Honest runs: of one request, of two by one caller and by two, and of one that ran out of memory.
use Rattle.std.specs.Prelude.{ℕ, List, [], ◌∷◌, ◌++◌, codes}
use Rattle.auth_text.specs.Login.{Login}
use Rattle.spaces.specs.declared.site.Target.TheVariants.{Server}
use Rattle.spaces.specs.ProtectionSpaces.{ProtectionSpace}
use Rattle.auth_events.specs.declared.journal.Gift.{Gift}
use Rattle.auth_events.specs.declared.journal.Call.{Call}
use Rattle.auth_events.specs.declared.journal.Call.TheVariants.{Begin, Preempt, Select, Answer, Note, End}
use Rattle.auth_events.specs.declared.journal.BookReply.{BookReply}
use Rattle.auth_events.specs.declared.journal.BookReply.TheVariants.{Begun, Nothing, Lead, Given, Noted, Ended as RequestEnded}
use Rattle.auth_events.specs.declared.journal.Entry.{Entry}
use Rattle.auth_events.specs.Tables.{Tables}
use Rattle.link_trait.specs.declared.prompts.AskSeen.TheVariants.{Given as AskGiven}
use Rattle.auth_runs.specs.declared.event.Outcome.TheVariants.{Answered, NoMemory}
use Rattle.auth_runs.specs.declared.event.Event.{Event}
use Rattle.auth_runs.specs.declared.event.Event.TheVariants.{Called, Dialed, Headed, Replied, AskedFor, Ended}
use Rattle.auth_runs.specs.Runs.{Run}
use Rattle.liars.specs.Session.{one_request, two_requests, seed, challenge, answer, login, space_in, bare_head, full_head}

abbrev pub made : ℕ → ℕ → Call → BookReply → Entry
made caller r call reply = record { caller = caller; request = r; call = call; reply = reply }

-- the first gift of a space
abbrev pub gift : ℕ → Gift
gift space = record { space = space; ordinal = 1 }

-- names of spaces and texts
abbrev pub names_of : List ProtectionSpace → List Login → Tables
names_of spaces texts = record { spaces = spaces; terms = []; nonces = []; texts = texts }

-- a request whose space, prompt and text have its own number: the events before its prompt, and all
abbrev pub start : ℕ → List Event
start n =
    Called Begin Begun ∷ Called (Preempt Server) Nothing ∷ Dialed 1 ∷ Headed 1 bare_head ∷ Replied 1 challenge
    ∷ Called (Select n 0) (Lead n 1) ∷ []

abbrev pub answered : ℕ → List Event
answered n = start n ++ AskedFor n AskGiven ∷ Called (Answer n n 0) (Given (gift n) 0) ∷ []

abbrev pub close : ℕ → List Event
close n = Called (Note (gift n)) Noted ∷ Called End RequestEnded ∷ Ended (Answered 200) ∷ []

abbrev pub events : ℕ → List Event
events n = answered n ++ Dialed 2 ∷ Headed 2 full_head ∷ Replied 2 answer ∷ close n

-- its entries, by a caller: those of the beginning, and those behind
abbrev pub begun : ℕ → ℕ → List Entry
begun caller n = made caller n Begin Begun ∷ made caller n (Preempt Server) Nothing ∷ []

abbrev pub prompted : ℕ → ℕ → List Entry
prompted caller n =
    made caller n (Select n 0) (Lead n 1) ∷ made caller n (Answer n n 0) (Given (gift n) 0) ∷ []

abbrev pub closed : ℕ → ℕ → List Entry
closed caller n = made caller n (Note (gift n)) Noted ∷ made caller n End RequestEnded ∷ []

abbrev pub entries : ℕ → ℕ → List Entry
entries caller n = begun caller n ++ prompted caller n ++ closed caller n

-- RUNS

abbrev pub one : Run
one = record {
  seed = seed;
  roster = one_request;
  names = names_of (space_in (codes "p") ∷ []) (login ∷ []);
  journal = entries 1 1;
  traces = events 1 ∷ [];
}

abbrev pub two : Run
two = record {
  seed = seed;
  roster = two_requests;
  names = names_of (space_in (codes "p") ∷ space_in (codes "q") ∷ []) (login ∷ login ∷ []);
  journal = entries 1 1 ++ entries 1 2;
  traces = events 1 ∷ events 2 ∷ [];
}

-- two callers, whose calls go through one another
abbrev pub two_callers : Run
two_callers = record two { journal = begun 1 1 ++ begun 2 2 ++ prompted 1 1 ++ prompted 2 2 ++ closed 2 2 ++ closed 1 1 }

-- there was no memory behind the naming of the space
abbrev pub cut : Run
cut = record {
  seed = seed;
  roster = one_request;
  names = names_of (space_in (codes "p") ∷ []) [];
  journal = begun 1 1 ++ made 1 1 End RequestEnded ∷ [];
  traces =
      (Called Begin Begun ∷ Called (Preempt Server) Nothing ∷ Dialed 1 ∷ Headed 1 bare_head ∷ Replied 1 challenge
      ∷ Called End RequestEnded ∷ Ended NoMemory ∷ []) ∷ [];
}
