-- What a session asks for, counted.
use Rattle.std.specs.Prelude.{ℕ, List, ◌++◌, length, codes, decimal, sum_by}
use Rattle.session_text.specs.declared.session.Session.{Session}

-- how many links are recorded for all requests together
abbrev pub links_of : List (List (List ℕ)) → ℕ
links_of links = sum_by length links

-- `session R requests, W workers, A answers, L links`, and a line end
abbrev pub counts_line : Session → List ℕ
counts_line session =
    codes "session "
    ++ decimal (length session.roster.requests) ++ codes " requests, "
    ++ decimal session.workers ++ codes " workers, "
    ++ decimal (length session.answers) ++ codes " answers, "
    ++ decimal (links_of session.links) ++ codes " links\n"
