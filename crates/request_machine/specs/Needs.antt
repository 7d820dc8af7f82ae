-- What a machine asks of its caller, and what that says of the rule.
use Rattle.std.specs.Prelude.{ℕ, ◌≡◌, ◌==◌, Bool, true, false, Option, Some, None, IsSome, is_some, option_map, if◌then◌else◌}
use Rattle.auth_events.specs.declared.journal.Gift.{Gift}
use Rattle.auth_events.specs.declared.journal.Loss.TheVariants.{Memory}
use Rattle.auth_events.specs.declared.journal.Call.{Call}
use Rattle.auth_events.specs.declared.journal.Call.TheVariants.{Select, Reject, Renew, Answer, Lose, Take, Note, End as CallEnd}
use Rattle.trace_rule.specs.Settings.{Setting}
use Rattle.trace_rule.specs.Closings.{want}
use Rattle.trace_rule.specs.Moves.Want.{Calls, Answers, Draws}
use Rattle.request_machine.specs.declared.holding.Holding.{Holding}
use Rattle.request_machine.specs.declared.need.Need.{Need}
use Rattle.request_machine.specs.declared.need.Need.TheVariants.{Book, SpaceNo, TermsNo, TextNo, SpaceOf, IdentityOf, TermsOf, Draw as DrawNeed, Ended}
use Rattle.request_machine.specs.declared.stage.Piece.{Piece}
use Rattle.request_machine.specs.declared.stage.Piece.TheVariants.{Space, Identity, Terms}
use Rattle.request_machine.specs.declared.stage.Stage.{Stage}
use Rattle.request_machine.specs.declared.stage.Stage.TheVariants.{Call as Calling, Learn, Draw, Ask, NameSpace, NameTerms, NameText, NameRenewal, NameLast, Select as Selecting, Reject as Rejecting, Renew as Renewing, RenewLast, Answer as Answering, Cancel as Cancelling, Lose as Losing, Take as Taking, Close, Spent, SpentEnd, Over}
use Rattle.request_machine.specs.Kept.{Kept, IsSpacePicked, AreTermsPicked, IsStale, IsRenewalLeft}
use Rattle.request_machine.specs.Changed.{holding}

-- the first of the calls that are left
abbrev pub first_left : Option Gift → Option Gift → Call
first_left None None = CallEnd
first_left None (Some gift) = Note gift
first_left (Some gift) server = Note gift

abbrev pub need_of : Piece → Holding → Need
need_of Space h = SpaceOf h.gift.space
need_of Identity h = IdentityOf h.gift
need_of Terms h = TermsOf h.terms

-- where memory has run out, a prompt that is open is lost, and then the request is ended
abbrev pub spent_call : ℕ → Call
spent_call prompt = if prompt == 0 then CallEnd else Lose prompt Memory

-- something is to be named
abbrev pub is_naming : Stage → Bool
is_naming (NameSpace t) = true
is_naming (NameTerms t space) = true
is_naming (NameText p) = true
is_naming (NameRenewal t gift) = true
is_naming (NameLast t gift c) = true
is_naming stage = false

-- what is asked for in a stage; in the others the machine goes on by itself
abbrev pub need_at : Kept → Stage → Option Need
need_at m (Calling call) = Some (Book call)
need_at m (Selecting t space terms) = Some (Book (Select space terms))
need_at m (Answering p text) = Some (Book (Answer p.number text p.terms))
need_at m (Cancelling p) = Some (Book (Answer p.number 0 p.terms))
need_at m (Losing p loss) = Some (Book (Lose p.number loss))
need_at m (Taking p) = Some (Book (Take p.number))
need_at m (Rejecting t gift) = Some (Book (Reject gift.space gift.ordinal))
need_at m (Renewing t gift terms) = Some (Book (Renew gift terms))
need_at m (RenewLast t gift terms c) = Some (Book (Renew gift terms))
need_at m (NameSpace t) = option_map SpaceNo m.unnamed_space
need_at m (NameTerms t space) = option_map (TermsNo space) m.unnamed_terms
need_at m (NameRenewal t gift) = option_map (TermsNo gift.space) m.unnamed_terms
need_at m (NameLast t gift c) = option_map (TermsNo gift.space) m.unnamed_terms
need_at m (NameText p) = option_map TextNo m.given
need_at m (Learn t piece) = option_map (need_of piece) (holding m t)
need_at m (Draw t nonce) = Some (DrawNeed nonce)
need_at m (Ask p ordinal) = if is_some m.space then None else Some (SpaceOf p.space)
need_at m (Close c) = Some (Book (first_left c.proxy c.server))
need_at m Spent = Some (Book (spent_call m.prompt))
need_at m SpentEnd = Some (Book CallEnd)
need_at m Over = Some Ended
need_at m stage = None

-- what is asked for is wanted by the rule; where memory has run out, and where nothing is asked for, there is nothing to say
abbrev pub IsWantedAt : Setting → Kept → Stage → Type 0
IsWantedAt s m (Calling call) = want s m.past ≡ Calls call
IsWantedAt s m (Draw t nonce) = want s m.past ≡ Draws t nonce
IsWantedAt s m (Selecting t space terms) = want s m.past ≡ Calls (Select space terms)
IsWantedAt s m (Rejecting t gift) = want s m.past ≡ Calls (Reject gift.space gift.ordinal)
IsWantedAt s m (Renewing t gift terms) = want s m.past ≡ Calls (Renew gift terms)
IsWantedAt s m (RenewLast t gift terms c) = want s m.past ≡ Calls (Renew gift terms)
IsWantedAt s m (NameSpace t) = IsSpacePicked s m.past m.unnamed_space m.unnamed_terms t
IsWantedAt s m (NameTerms t n) = AreTermsPicked s m.past m.unnamed_terms t n
IsWantedAt s m (NameText p) = (want s m.past ≡ Answers p.number p.terms) × IsSome m.given
IsWantedAt s m (NameRenewal t gift) = IsStale s m.past m.unnamed_terms gift
IsWantedAt s m (NameLast t gift c) = IsRenewalLeft s m.past m.unnamed_terms t gift c
IsWantedAt s m (Answering p text) = want s m.past ≡ Answers p.number p.terms
IsWantedAt s m (Cancelling p) = want s m.past ≡ Calls (Answer p.number 0 p.terms)
IsWantedAt s m (Losing p loss) = want s m.past ≡ Calls (Lose p.number loss)
IsWantedAt s m (Taking p) = want s m.past ≡ Calls (Take p.number)
IsWantedAt s m (Close c) = want s m.past ≡ Calls (first_left c.proxy c.server)
IsWantedAt s m stage = Unit {0}
