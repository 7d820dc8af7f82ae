-- What holds of each request and each step that was read.
use Rattle.std.specs.Prelude.{All, IsTrue}
use Rattle.spaces.specs.Places.{IsPlaced}
use Rattle.link_trait.specs.Tokens.{is_answered, are_answered}
use Rattle.session_text.specs.declared.line.Line.{Line}
use Rattle.session_text.specs.declared.line.Line.TheVariants.{Request as Requested, Token}
use Rattle.session_text.specs.declared.session.Reading.{Reading}

-- the place of a request is the one that its text reads as, and a step is an answer
abbrev pub IsRight : Line → Type 0
IsRight (Requested request) = IsPlaced request
IsRight (Token step) = IsTrue (is_answered step)
IsRight _ = Unit {0}

-- so it is of all requests and steps read so far
abbrev pub IsPlayable : Reading → Type 0
IsPlayable r = All IsPlaced r.roster.requests × IsTrue (are_answered r.steps)
