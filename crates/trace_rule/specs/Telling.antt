-- What dialers, providers and prompters tell of a trace: what it dialed and wrote, and what it asked for.
-- Each is read off a past, the latest event first.
use Rattle.std.specs.Prelude.{ℕ, ◌≡◌, ◌⊎◌, ◌||◌, Bool, true, false, IsTrue, List, [], ◌∷◌, ◌++◌, take, Option, Some, None, unwrap_or, option_map, if◌then◌else◌, ◌==◌}
use Rattle.std.specs.List.{list_any, cons_option}
use Rattle.spaces.specs.declared.site.Target.{Target}
use Rattle.auth_events.specs.declared.journal.Call.TheVariants.{Select, End}
use Rattle.auth_events.specs.declared.journal.BookReply.{BookReply}
use Rattle.auth_events.specs.declared.journal.BookReply.TheVariants.{Lead}
use Rattle.link_trait.specs.declared.links.LinkName.{LinkName}
use Rattle.link_trait.specs.declared.dialer.Dial.{Dial}
use Rattle.link_trait.specs.declared.prompts.Ask.{Ask}
use Rattle.link_trait.specs.declared.prompts.AskSeen.{AskSeen}
use Rattle.link_trait.specs.declared.prompts.AskSeen.TheVariants.{Given, Cancel}
use Rattle.link_trait.specs.declared.steps.Step.{Step}
use Rattle.link_trait.specs.declared.steps.Step.TheVariants.{Token as GaveToken, Done as GaveDone, Refused as GaveRefused, NoMechanism as GaveNoMechanism}
use Rattle.link_trait.specs.declared.steps.StepSeen.{StepSeen}
use Rattle.link_trait.specs.declared.steps.StepSeen.TheVariants.{Token, Done, Refused, NoMechanism, Failed, NoMemory as StepNoMemory}
use Rattle.link_trait.specs.declared.tokens.TokenCall.{TokenCall}
use Rattle.link_trait.specs.declared.tokens.TokenCall.TheVariants.{Started, WentOn}
use Rattle.auth_runs.specs.declared.event.Outcome.TheVariants.{NoMemory}
use Rattle.auth_runs.specs.declared.event.Event.{Event}
use Rattle.auth_runs.specs.declared.event.Event.TheVariants.{Called, Dialed, Headed, WriteFailed, AskedFor, Stepped, Ended}
use Rattle.trace_rule.specs.Settings.{Setting, next_hop}
use Rattle.trace_rule.specs.Moves.{Want, Asking}
use Rattle.trace_rule.specs.Closings.{want}
use Rattle.trace_rule.specs.Moves.Want.{Steps}
use Rattle.trace_rule.specs.Moves.Asking.{Start, GoOn}

abbrev pub link_name : Setting → ℕ → LinkName
link_name s link = record { request = s.number; nth = link }

-- DIALS

-- the links that were dialed, each with where it goes
abbrev pub dials : Setting → List Event → List Dial
dials s [] = []
dials s (Dialed link ∷ past) = dials s past ++ record { link = link_name s link; to = next_hop s } ∷ []
dials s (event ∷ past) = dials s past

-- WHAT WAS WRITTEN

-- the bytes that were written to a link
pub record Written : Type 0 where
  pub link : LinkName
  pub bytes : List ℕ

-- the heads
abbrev pub sends : Setting → List Event → List Written
sends s [] = []
sends s (Headed link bytes ∷ past) = sends s past ++ record { link = link_name s link; bytes = bytes } ∷ []
sends s (event ∷ past) = sends s past

abbrev pub is_write_fault : Event → Bool
is_write_fault (WriteFailed link count) = true
is_write_fault _ = false

-- the request ran out of memory behind a head
abbrev pub is_cut_at_head : List Event → Bool
is_cut_at_head (Ended NoMemory ∷ Called End reply ∷ Headed link bytes ∷ past) = true
is_cut_at_head past = false

-- the write of the last head failed, or ran out of memory
abbrev pub is_short : List Event → Bool
is_short past = list_any is_write_fault past || is_cut_at_head past

-- all but the last one, of which nothing or a front may be there
pub record IsShortOf (whole short : List Written) : Type 0 where
  pub front : List Written
  pub last : Written
  pub order : whole ≡ front ++ last ∷ []
  pub written : (short ≡ front) ⊎ (n : ℕ) × (short ≡ front ++ record { link = last.link; bytes = take n last.bytes } ∷ [])

-- that was written: the heads, but for the last one where its write did not succeed
abbrev pub IsSent : Setting → List Event → List Written → Type 0
IsSent s past written = (written ≡ sends s past) ⊎ IsTrue (is_short past) × IsShortOf (sends s past) written

-- WHAT THE PROVIDER WAS ASKED

-- a provider's answer, where it was one
abbrev pub step_told : StepSeen → Option Step
step_told (Token token) = Some (GaveToken token)
step_told Done = Some GaveDone
step_told Refused = Some GaveRefused
step_told NoMechanism = Some GaveNoMechanism
step_told (Failed count) = None
step_told StepNoMemory = None

abbrev pub asking_told : Setting → Asking → Step → TokenCall
asking_told s (Start spn identity) step = Started s.number spn identity step
asking_told s (GoOn peer) step = WentOn s.number peer step

-- what was asked is what was wanted
abbrev pub call_told : Setting → Want → Step → Option TokenCall
call_told s (Steps target asking) step = Some (asking_told s asking step)
call_told s want step = None

abbrev pub answered_call : Setting → Want → Option Step → Option TokenCall
answered_call s want None = None
answered_call s want (Some step) = call_told s want step

-- the calls that the provider answered
abbrev pub asks : Setting → List Event → List TokenCall
asks s [] = []
asks s (Stepped target step ∷ past) = asks s past ++ cons_option (answered_call s (want s past) (step_told step)) []
asks s (event ∷ past) = asks s past

-- the whole ran out of memory behind the past, in or after the provider's step that was wanted there
abbrev pub IsSpentBehind : List Event → List Event → Type 0
IsSpentBehind past whole =
    (reply : BookReply) × ((whole ≡ Ended NoMemory ∷ Called End reply ∷ past) ⊎ (target : Target) × (whole ≡ Ended NoMemory ∷ Called End reply ∷ Stepped target StepNoMemory ∷ past))

-- one call more was answered, which the trace doesn't show
pub record IsAskedOnceMore (s : Setting) (whole : List Event) (calls : List TokenCall) : Type 0 where
  pub past : List Event
  pub spent : IsSpentBehind past whole
  pub step : Step
  pub call : TokenCall
  pub is_call : call_told s (want s past) step ≡ Some call
  pub order : calls ≡ asks s past ++ call ∷ []

-- these calls were answered: where the request ran out of memory in a step, that of the step counts or doesn't
abbrev pub IsAsked : Setting → List Event → List TokenCall → Type 0
IsAsked s past calls = (calls ≡ asks s past) ⊎ IsAskedOnceMore s past calls

-- PROMPTS

-- the space of a prompt that the request leads, and its ordinal
abbrev pub ask_led_by : Setting → ℕ → Event → Option Ask
ask_led_by s p (Called (Select space terms) (Lead prompt ordinal)) =
    if prompt == p then option_map (λ named. record { space = named; ordinal = ordinal }) (s.space_of space) else None
ask_led_by s p _ = None

abbrev pub ask_of : Setting → List Event → ℕ → List Ask
ask_of s [] p = []
ask_of s (event ∷ past) p = unwrap_or (option_map (λ ask. ask ∷ []) (ask_led_by s p event)) (ask_of s past p)

abbrev pub is_answered : AskSeen → Bool
is_answered Given = true
is_answered Cancel = true
is_answered _ = false

-- the prompts that were answered
abbrev pub prompted : Setting → List Event → List Ask
prompted s [] = []
prompted s (AskedFor prompt given ∷ past) = prompted s past ++ (if is_answered given then ask_of s past prompt else [])
prompted s (event ∷ past) = prompted s past
