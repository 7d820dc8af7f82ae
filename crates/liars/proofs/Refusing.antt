-- What a run's rule says of one event of one request.
use Rattle.std.proofs.Common.{◌≡◌, ℕ, zero, suc, false, List, [], ◌∷◌, drop, reverse, sym, ap, ◌∙◌, subst, ◌⊎◌, inl, inr, Option, Some}
use Rattle.std.proofs.lemmas.Bool.{false≢true}
use Rattle.spaces.specs.declared.roster.Method.{Method}
use Rattle.spaces.specs.declared.roster.Request.{Request}
use Rattle.spaces.specs.Sites.{numbered}
use Rattle.link_trait.specs.declared.links.LinkName.{LinkName}
use Rattle.link_trait.specs.Links.{Stream}
use Rattle.auth_runs.specs.declared.event.Event.{Event}
use Rattle.auth_runs.specs.Runs.{Run, trace}
use Rattle.trace_rule.specs.Settings.{Setting, setting_of}
use Rattle.trace_rule.specs.Traces.{IsPast, IsRun, IsCut, IsTrace, is_spent}
use Rattle.trace_rule.specs.Heard.{IsHeard}
use Rattle.run_rule.specs.Outside.{Outside}
use Rattle.run_rule.specs.Runs.{IsServedIn}

abbrev pub setting_in : Run → ℕ → Request → Setting
setting_in run r request = setting_of run.roster run.seed run.names (reverse run.journal) r request

-- a request is one
one_request : (o : Option Request) (a b : Request) → o ≡ Some a → o ≡ Some b → a ≡ b
one_request o a b one other = let same : Some a ≡ Some b = sym one ∙ other in cc

drop_past : (s : Setting) (n : ℕ) (past : List Event) → IsPast s past → IsPast s (drop n past)
drop_past s zero past is = is
drop_past s (suc n) [] is = tt
drop_past s (suc n) (event ∷ past) is = drop_past s n past is.0

drop_heard : (streams : LinkName → Stream) (method : Method) (r n : ℕ) (past : List Event) → IsHeard streams method r past → IsHeard streams method r (drop n past)
drop_heard streams method r zero past is = is
drop_heard streams method r (suc n) [] is = tt
drop_heard streams method r (suc n) (event ∷ past) is = drop_heard streams method r n past is.0

whole : (s : Setting) (past : List Event) → IsRun s past ⊎ IsCut s past → is_spent past ≡ false → IsRun s past
whole s past (inl run) unspent = run
whole s past (inr cut) unspent = absurd (false≢true (sym unspent ∙ ap is_spent cut.1.cut))

-- the past that stands behind the last n events
pub past_in : (outside : Outside) (run : Run) (r : ℕ) (request : Request) (n : ℕ) → numbered run.roster.requests r ≡ Some request
    → is_spent (reverse (trace run r)) ≡ false → IsServedIn outside run r → IsPast (setting_in run r request) (drop n (reverse (trace run r)))
past_in outside run r request n is unspent served =
    let same = one_request (numbered run.roster.requests r) served.request request served.in_roster is in
    drop_past (setting_in run r request) n (reverse (trace run r))
    (whole (setting_in run r request) (reverse (trace run r)) (subst (λ q. IsTrace (setting_in run r q) (trace run r)) same served.is_trace) unspent).0

pub heard_in : (outside : Outside) (run : Run) (r : ℕ) (request : Request) (n : ℕ) → numbered run.roster.requests r ≡ Some request
    → IsServedIn outside run r → IsHeard outside.streams request.method r (drop n (reverse (trace run r)))
heard_in outside run r request n is served =
    let same = one_request (numbered run.roster.requests r) served.request request served.in_roster is in
    drop_heard outside.streams request.method r n (reverse (trace run r))
    (subst (λ q. IsHeard outside.streams q.method r (reverse (trace run r))) same served.heard)
