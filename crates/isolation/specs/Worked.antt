-- One book for two partitions, and what each has of it alone. 112 and 113 are the partitions `p` and `q`; all requests are for one URL.
use Rattle.std.specs.Prelude.{List, [], ◌∷◌, ◌++◌, map}
use Rattle.spaces.specs.declared.roster.Roster.{Roster}
use Rattle.spaces.specs.declared.site.Target.TheVariants.{Server}
use Rattle.auth_events.specs.declared.journal.Call.TheVariants.{Begin, Preempt, Select, Reject, Answer, Take, Note, End}
use Rattle.auth_events.specs.declared.journal.BookReply.TheVariants.{Ready, Follow, Lead, Removed, Given, Noted, Ended, Gave, Begun}
use Rattle.auth_events.specs.declared.journal.Entry.{Entry}
use Rattle.auth_events.specs.Tables.{Tables}
use Rattle.history_laws.specs.Worked.{row, gift, request_in, basic_in, roster_of, names_of, starts, led}

-- requests 1 and 4 are of `p`, requests 2, 3 and 5 of `q`
abbrev pub shared_roster : Roster
shared_roster = roster_of (map (λ partition. request_in partition 65 (47 ∷ [])) (112 ∷ 113 ∷ 113 ∷ 112 ∷ 113 ∷ []))

abbrev pub shared_names : Tables
shared_names = names_of (basic_in 112 65 ∷ basic_in 113 65 ∷ []) 3

-- `p` leads prompt 1, `q` leads prompts 2 and 3; one of `q` follows prompt 2, and later has its gift removed
abbrev pub shared : List Entry
shared =
    starts 1 ++ starts 2 ++ starts 3
    ++ row 1 (Select 1 0) (Lead 1 1) ∷ row 2 (Select 2 0) (Lead 2 1) ∷ row 3 (Select 2 0) (Follow 2)
    ∷ row 1 (Answer 1 1 0) (Given (gift 1 1) 0) ∷ row 2 (Answer 2 2 0) (Given (gift 2 1) 0) ∷ row 3 (Take 2) (Gave (gift 2 1))
    ∷ row 1 (Note (gift 1 1)) Noted ∷ row 3 (Note (gift 2 1)) Noted ∷ row 1 End Ended
    ∷ row 4 Begin Begun ∷ row 4 (Preempt Server) (Ready (gift 1 1) 0 0) ∷ row 3 (Reject 2 1) Removed ∷ starts 5 ++ led 5 2 3 2 0

-- alone `p` has one prompt, which is its first
abbrev pub alone_of_p : List Entry
alone_of_p =
    starts 1 ++ led 1 1 1 1 0
    ++ row 1 (Note (gift 1 1)) Noted ∷ row 1 End Ended ∷ row 4 Begin Begun ∷ row 4 (Preempt Server) (Ready (gift 1 1) 0 0) ∷ []

-- alone `q` has two prompts, which are its first and second
abbrev pub alone_of_q : List Entry
alone_of_q =
    starts 2 ++ starts 3
    ++ row 2 (Select 2 0) (Lead 1 1) ∷ row 3 (Select 2 0) (Follow 1)
    ∷ row 2 (Answer 1 2 0) (Given (gift 2 1) 0) ∷ row 3 (Take 1) (Gave (gift 2 1)) ∷ row 3 (Note (gift 2 1)) Noted ∷ row 3 (Reject 2 1) Removed
    ∷ starts 5 ++ row 5 (Select 2 0) (Lead 2 2) ∷ row 5 (Answer 2 3 0) (Given (gift 2 2) 0) ∷ []
