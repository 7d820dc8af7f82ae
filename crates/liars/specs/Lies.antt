-- Runs that lie, each by one thing: what is told differs there from what happened, or from what has to happen.
use Rattle.std.specs.Prelude.{List, [], ◌∷◌, ◌++◌, codes, take, drop}
use Rattle.auth_text.specs.Login.{Login}
use Rattle.spaces.specs.declared.site.Target.TheVariants.{Server}
use Rattle.auth_events.specs.declared.journal.Loss.TheVariants.{Fault}
use Rattle.auth_events.specs.declared.journal.Call.TheVariants.{Begin, Preempt, Select, Answer, Lose, Note, End}
use Rattle.auth_events.specs.declared.journal.BookReply.TheVariants.{Begun, Ready, Lead, Given, Cancelled, Lost, Noted, Ended as RequestEnded}
use Rattle.auth_events.specs.declared.journal.Entry.{Entry}
use Rattle.link_trait.specs.declared.prompts.AskSeen.TheVariants.{Given as AskGiven, Cancel, Failed as AskFailed}
use Rattle.wire_head.specs.declared.reply.WireFault.TheVariants.{Cut}
use Rattle.auth_runs.specs.declared.event.Why.TheVariants.{NoChallenge, Cancelled as ByCancel}
use Rattle.auth_runs.specs.declared.event.Outcome.TheVariants.{Answered, Refused, BadReply, LinkFailed, PromptFailed}
use Rattle.auth_runs.specs.declared.event.Event.{Event}
use Rattle.auth_runs.specs.declared.event.Event.TheVariants.{Called, Dialed, DialFailed, Headed, ReadFailed, Replied, Broken, AskedFor, Ended}
use Rattle.auth_runs.specs.Runs.{Run}
use Rattle.liars.specs.Session.{two_requests, answer, login, space_in, head_to, bare_head, full_head}
use Rattle.liars.specs.Honest.{made, gift, names_of, start, answered, close, events, begun, prompted, closed, entries, one, two, two_callers}

-- the run of one request, with other events, and with another journal and texts
abbrev pub told : List Event → Run
told other = record one { traces = other ∷ [] }

abbrev pub told_with : List Login → List Entry → List Event → Run
told_with texts journal other = record one { names = names_of (space_in (codes "p") ∷ []) texts; journal = journal; traces = other ∷ [] }

-- PROMPTS

-- nobody was asked: the prompter is said to have failed
abbrev pub nobody_asked : Run
nobody_asked =
    told_with [] (begun 1 1 ++ made 1 1 (Select 1 0) (Lead 1 1) ∷ made 1 1 (Lose 1 (Fault 1)) (Lost (Fault 1)) ∷ made 1 1 End RequestEnded ∷ [])
    (start 1 ++ AskedFor 1 (AskFailed 1) ∷ Called (Lose 1 (Fault 1)) (Lost (Fault 1)) ∷ Called End RequestEnded ∷ Ended (PromptFailed 1) ∷ [])

-- the user gave an identity, and is said to have cancelled
abbrev pub not_listened : Run
not_listened =
    told_with [] (begun 1 1 ++ made 1 1 (Select 1 0) (Lead 1 1) ∷ made 1 1 (Answer 1 0 0) Cancelled ∷ made 1 1 End RequestEnded ∷ [])
    (start 1 ++ AskedFor 1 Cancel ∷ Called (Answer 1 0 0) Cancelled ∷ Called End RequestEnded ∷ Ended (Refused 401 (ByCancel 1)) ∷ [])

-- another password than the one that was given is named, and sent
abbrev pub another_identity : Run
another_identity =
    told_with (record { user = codes "u"; password = codes "q" } ∷ []) (entries 1 1)
    (answered 1 ++ Dialed 2 ∷ Headed 2 (head_to (codes "h") (codes "Authorization: Basic dTpx\r\n")) ∷ Replied 2 answer ∷ close 1)

-- an identity is answered that nobody was asked for
abbrev pub never_asked : Run
never_asked = told (start 1 ++ drop 7 (events 1))

-- the user is asked twice for one prompt
abbrev pub asked_twice : Run
asked_twice = told (start 1 ++ AskedFor 1 AskGiven ∷ drop 6 (events 1))

-- HEADS

-- another password than the one that was given goes out
abbrev pub another_password : Run
another_password =
    told (answered 1 ++ Dialed 2 ∷ Headed 2 (head_to (codes "h") (codes "Authorization: Basic dTpx\r\n")) ∷ Replied 2 answer ∷ close 1)

-- the identity that was given doesn't go out
abbrev pub no_identity : Run
no_identity = told (answered 1 ++ Dialed 2 ∷ Headed 2 bare_head ∷ Replied 2 answer ∷ close 1)

-- the server's identity goes out as a proxy's
abbrev pub to_a_proxy : Run
to_a_proxy =
    told (answered 1 ++ Dialed 2 ∷ Headed 2 (head_to (codes "h") (codes "Proxy-Authorization: Basic dTpw\r\n")) ∷ Replied 2 answer ∷ close 1)

-- it goes to another host
abbrev pub to_another_host : Run
to_another_host =
    told (answered 1 ++ Dialed 2 ∷ Headed 2 (head_to (codes "k") (codes "Authorization: Basic dTpw\r\n")) ∷ Replied 2 answer ∷ close 1)

-- it goes over the first link, on which nothing was agreed
abbrev pub over_the_first_link : Run
over_the_first_link = told (answered 1 ++ Dialed 2 ∷ Headed 1 full_head ∷ Replied 1 answer ∷ close 1)

-- LINKS

-- the second link's reply is told of the first one
abbrev pub reply_of_another_link : Run
reply_of_another_link =
    record one {
      names = names_of [] [];
      journal = begun 1 1 ++ made 1 1 End RequestEnded ∷ [];
      traces = (take 4 (events 1) ++ Replied 1 answer ∷ Called End RequestEnded ∷ Ended (Answered 200) ∷ []) ∷ [];
    }

-- the first link's reply is told to be broken
abbrev pub broken_reply : Run
broken_reply =
    record one {
      names = names_of [] [];
      journal = begun 1 1 ++ made 1 1 End RequestEnded ∷ [];
      traces = (take 4 (events 1) ++ Broken 1 Cut ∷ Called End RequestEnded ∷ Ended (BadReply Cut) ∷ []) ∷ [];
    }

-- a dial is told to have failed
abbrev pub dial_fault : Run
dial_fault =
    record one {
      names = names_of [] [];
      journal = begun 1 1 ++ made 1 1 End RequestEnded ∷ [];
      traces = (take 2 (events 1) ++ DialFailed 1 1 ∷ Called End RequestEnded ∷ Ended (LinkFailed 1) ∷ []) ∷ [];
    }

-- a read is told to have failed
abbrev pub read_fault : Run
read_fault =
    record one {
      names = names_of [] [];
      journal = begun 1 1 ++ made 1 1 End RequestEnded ∷ [];
      traces = (take 4 (events 1) ++ ReadFailed 1 1 ∷ Called End RequestEnded ∷ Ended (LinkFailed 1) ∷ []) ∷ [];
    }

-- ENDS

-- the challenge is told to be the answer
abbrev pub too_early : Run
too_early =
    record one {
      names = names_of [] [];
      journal = begun 1 1 ++ made 1 1 End RequestEnded ∷ [];
      traces = (take 5 (events 1) ++ Called End RequestEnded ∷ Ended (Answered 401) ∷ []) ∷ [];
    }

-- a challenge that can be answered is told to be none
abbrev pub given_up : Run
given_up =
    record one {
      names = names_of [] [];
      journal = begun 1 1 ++ made 1 1 End RequestEnded ∷ [];
      traces = (take 5 (events 1) ++ Called End RequestEnded ∷ Ended (Refused 401 NoChallenge) ∷ []) ∷ [];
    }

-- the book isn't told where the identity was good
abbrev pub no_note : Run
no_note =
    told_with (login ∷ []) (begun 1 1 ++ prompted 1 1 ++ made 1 1 End RequestEnded ∷ [])
    (take 11 (events 1) ++ Called End RequestEnded ∷ Ended (Answered 200) ∷ [])

-- JOURNAL

-- a call stands twice
abbrev pub entry_twice : Run
entry_twice = record one { journal = begun 1 1 ++ prompted 1 1 ++ take 1 (closed 1 1) ++ closed 1 1 }

-- a call stands in no trace
abbrev pub untraced_call : Run
untraced_call = record one { traces = (take 11 (events 1) ++ drop 12 (events 1)) ∷ [] }

-- the run of two callers is told as one's
abbrev pub two_as_one : Run
two_as_one = two_callers

-- the book gives another gift than it has
abbrev pub another_gift : Run
another_gift = record one { journal = begun 1 1 ++ made 1 1 (Select 1 0) (Lead 1 1) ∷ made 1 1 (Answer 1 1 0) (Given (record { space = 1; ordinal = 2 }) 0) ∷ closed 1 1 }

-- the second partition gets the first one's gift
abbrev pub another_partitions_gift : Run
another_partitions_gift =
    record two {
      names = names_of (space_in (codes "p") ∷ []) (login ∷ []);
      journal = entries 1 1 ++ made 1 2 Begin Begun ∷ made 1 2 (Preempt Server) (Ready (gift 1) 0 0) ∷ made 1 2 (Note (gift 1)) Noted ∷ made 1 2 End RequestEnded ∷ [];
      traces =
          events 1
          ∷ (Called Begin Begun ∷ Called (Preempt Server) (Ready (gift 1) 0 0) ∷ Dialed 1 ∷ Headed 1 full_head ∷ Replied 1 answer
          ∷ Called (Note (gift 1)) Noted ∷ Called End RequestEnded ∷ Ended (Answered 200) ∷ []) ∷ [];
    }

-- the second request is left out
abbrev pub request_left_out : Run
request_left_out = record one { roster = two_requests }

-- NAMES

-- a text is named that nothing uses
abbrev pub unused_text : Run
unused_text = record one { names = names_of (space_in (codes "p") ∷ []) (login ∷ login ∷ []) }

-- one space has two numbers
abbrev pub space_twice : Run
space_twice = record one { names = names_of (space_in (codes "p") ∷ space_in (codes "p") ∷ []) (login ∷ []) }

-- the second answer names the first one's text
abbrev pub text_again : Run
text_again =
    record two {
      names = names_of (space_in (codes "p") ∷ space_in (codes "q") ∷ []) (login ∷ []);
      journal = entries 1 1 ++ begun 1 2 ++ made 1 2 (Select 2 0) (Lead 2 1) ∷ made 1 2 (Answer 2 1 0) (Given (gift 2) 0) ∷ closed 1 2;
      traces =
          events 1
          ∷ (start 2 ++ AskedFor 2 AskGiven ∷ Called (Answer 2 1 0) (Given (gift 2) 0) ∷ Dialed 2 ∷ Headed 2 full_head ∷ Replied 2 answer ∷ close 2) ∷ [];
    }

-- THE HAND-OVER

-- it is told with another seed
abbrev pub another_seed : Run
another_seed = record one { seed = 1 ∷ [] }
