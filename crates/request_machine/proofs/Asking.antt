-- The prompter is asked, and what it gives.
use Rattle.std.proofs.Common.{IsSome, ◌≡◌, ℕ, ◌==◌, true, false, not, List, [], ◌∷◌, ◌++◌, Option, Some, None, refl, sym, ap, ◌∙◌, zero-add, if◌then◌else◌, IsTrue, subst, option_map, is_some}
use Rattle.std.proofs.lemmas.Bool.{false≢true}
use Rattle.std.specs.List.{list_any}
use Rattle.spaces.specs.ProtectionSpaces.{ProtectionSpace}
use Rattle.auth_events.specs.declared.journal.Call.TheVariants.{Answer}
use Rattle.link_trait.specs.declared.prompts.Ask.{Ask as Asked}
use Rattle.link_trait.specs.declared.prompts.AskSeen.{AskSeen}
use Rattle.link_trait.specs.declared.prompts.AskSeen.TheVariants.{Given as AskGiven, Cancel, Failed as AskFailed, NoMemory as AskNoMemory}
use Rattle.auth_runs.specs.declared.event.Event.{Event}
use Rattle.auth_runs.specs.declared.event.Event.TheVariants.{AskedFor}
use Rattle.trace_rule.specs.Settings.{Setting}
use Rattle.trace_rule.specs.Moves.{rounds}
use Rattle.trace_rule.specs.Moves.Want.{Calls, Answers}
use Rattle.trace_rule.specs.Traces.{IsPast, Follows, is_end}
use Rattle.trace_rule.specs.Telling.{ask_of, prompted, is_answered}
use Rattle.auth_text.specs.Login.{Login}
use Rattle.request_machine.specs.declared.need.Need.TheVariants.{TextNo}
use Rattle.request_machine.specs.Needs.{need_at}
use Rattle.request_machine.specs.Turns.{is_asking}
use Rattle.link_trait.specs.Told.{grown}
use Rattle.std.proofs.lemmas.List.{append-nil}
use Rattle.request_machine.proofs.Dialing.{grown_more, grown_none}
use Rattle.request_machine.specs.declared.stage.Prompt.{Prompt}
use Rattle.request_machine.specs.declared.stage.Stage.TheVariants.{Ask, NameText, Answer as Answering}
use Rattle.request_machine.specs.Kept.{IsKept, Kept, Ties, IsStage, IsLed, asked_of, is_after_end, can_stop}
use Rattle.request_machine.specs.Asking.{IsAskedIn, stage_asked}
use Rattle.request_machine.proofs.Quiet.{IsNext, IsStill, quiet_ties}
use Rattle.request_machine.proofs.Prompts.{open_behind}
use Rattle.request_machine.proofs.Prompting.{still_open}

-- THE PROMPTER'S ANSWER

asked_still : (s : Setting) (past : List Event) (p : ℕ) (seen : AskSeen) → IsStill s past (AskedFor p seen)
asked_still s past p seen = record {
  drawn = λ t. refl;
  carried = λ t. refl;
  links = refl;
  heads = refl;
  code = refl;
  rounds = zero-add (rounds s past);
  is_dialed = refl;
  stays = λ link. refl;
  has_lost = refl;
  has_none = refl;
  prompt = open_behind past (AskedFor p seen) (λ q. refl);
}

led_still : (s : Setting) (past : List Event) (p : Prompt) (seen : AskSeen) → IsLed s past p → IsLed s (AskedFor p.number seen ∷ past) p
led_still s past p seen led = record {
  terms = led.terms;
  space = led.space;
  is_open = open_behind past (AskedFor p.number seen) (λ q. refl) ∙ led.is_open;
  of_target = led.of_target;
}

pub asked_ties : (s : Setting) (m : Kept) (p : Prompt) (ordinal : ℕ) (seen : AskSeen) → m.stage ≡ Ask p ordinal → (seen ≡ AskGiven → IsSome m.given) → Ties s m
    → Ties s (record m { past = AskedFor p.number seen ∷ m.past; stage = stage_asked p seen })
asked_ties s m p ordinal seen same given t =
    quiet_ties s m (AskedFor p.number seen) (stage_asked p seen) (asked_still s m.past p.number seen) (λ x. refl) t (keeps seen given) (by seen)
  where
    keeps : (seen : AskSeen) → (seen ≡ AskGiven → IsSome m.given) → IsKept s (record m { past = AskedFor p.number seen ∷ m.past; stage = stage_asked p seen }) (stage_asked p seen)
    keeps AskGiven given = given refl
    keeps Cancel given = tt
    keeps (AskFailed count) given = tt
    keeps AskNoMemory given = tt

    no_end : list_any is_end m.past ≡ false
    no_end = t.ended ∙ ap is_after_end same

    at : IsStage s m.past (Ask p ordinal)
    at = subst (IsStage s m.past) same t.stage

    past : (given : AskSeen) → IsPast s (AskedFor p.number given ∷ m.past)
    past given = (at.0, subst (λ v. Follows s m.past v (AskedFor p.number given)) (sym at.1) refl)

    by : (given : AskSeen) → IsNext s (AskedFor p.number given ∷ m.past) (stage_asked p given)
    by AskGiven = record {
      stands = (past AskGiven, ap (Answers p.number) at.2.terms, led_still s m.past p AskGiven at.2);
      ended = no_end;
      may_stop = rw no_end refl;
      open_still = still_open s m (Ask p ordinal) same t;
    }
    by Cancel = record {
      stands = (past Cancel, ap (λ k. Calls (Answer p.number 0 k)) at.2.terms, led_still s m.past p Cancel at.2);
      ended = no_end;
      may_stop = rw no_end refl;
      open_still = still_open s m (Ask p ordinal) same t;
    }
    by (AskFailed count) = record {
      stands = (past (AskFailed count), refl, led_still s m.past p (AskFailed count) at.2);
      ended = no_end;
      may_stop = rw no_end refl;
      open_still = still_open s m (Ask p ordinal) same t;
    }
    by AskNoMemory = record {
      stands = (past AskNoMemory, refl, led_still s m.past p AskNoMemory at.2);
      ended = no_end;
      may_stop = rw no_end refl;
      open_still = still_open s m (Ask p ordinal) same t;
    }

-- a text has a number
pub text_named_ties : (s : Setting) (m : Kept) (p : Prompt) (text : ℕ) → m.stage ≡ NameText p → IsTrue (not (text == 0)) → Ties s m → Ties s (record m { stage = Answering p text })
text_named_ties s m p text same some t =
    let at : IsStage s m.past (NameText p) = subst (IsStage s m.past) same t.stage in
    record {
      same_number = t.same_number;
      same_seed = t.same_seed;
      passes_over = t.passes_over;
      route = t.route;
      stage = (at.0, at.1, at.2, some);
      proxy = t.proxy;
      server = t.server;
      drawn_proxy = t.drawn_proxy;
      drawn_server = t.drawn_server;
      noted_proxy = t.noted_proxy;
      noted_server = t.noted_server;
      links = t.links;
      heads = t.heads;
      code = t.code;
      rounds = t.rounds;
      is_dialed = t.is_dialed;
      stays = t.stays;
      has_lost = t.has_lost;
      has_none = t.has_none;
      ended = t.ended ∙ ap is_after_end same;
      may_stop = t.may_stop ∙ ap can_stop same;
      prompt = t.prompt;
      open_still = still_open s m (NameText p) same t;
      kept = tt;
    }

-- the identity that was given plays no part
pub given_kept_ties : (s : Setting) (m : Kept) (p : Prompt) (ordinal : ℕ) (login : Login) → m.stage ≡ Ask p ordinal → Ties s m → Ties s (record m { given = Some login })
given_kept_ties s m p ordinal login same t = record {
  same_number = t.same_number;
  same_seed = t.same_seed;
  passes_over = t.passes_over;
  route = t.route;
  stage = t.stage;
  proxy = t.proxy;
  server = t.server;
  drawn_proxy = t.drawn_proxy;
  drawn_server = t.drawn_server;
  noted_proxy = t.noted_proxy;
  noted_server = t.noted_server;
  links = t.links;
  heads = t.heads;
  code = t.code;
  rounds = t.rounds;
  is_dialed = t.is_dialed;
  stays = t.stays;
  has_lost = t.has_lost;
  has_none = t.has_none;
  ended = t.ended;
  may_stop = t.may_stop;
  prompt = t.prompt;
  open_still = t.open_still;
  kept = subst (IsKept s (record m { given = Some login })) (sym same) tt;
}

-- WHAT THE PROMPTER TELLS

-- one answered prompt more
pub one_ask : (s : Setting) (m : Kept) (p : Prompt) (ordinal : ℕ) (seen : AskSeen) (space : ProtectionSpace) (before old : Option (List Asked)) → m.stage ≡ Ask p ordinal → is_answered seen ≡ true
    → s.space_of p.space ≡ Some space → Ties s m → old ≡ grown before (prompted s m.past)
    → grown old (asked_of ordinal space ∷ []) ≡ grown before (prompted s (AskedFor p.number seen ∷ m.past))
one_ask s m p ordinal seen space before old same answers is t told =
    let at : IsStage s m.past (Ask p ordinal) = subst (IsStage s m.past) same t.stage in
    ap (λ o. grown o (asked_of ordinal space ∷ [])) told
    ∙ grown_more before (prompted s m.past) (asked_of ordinal space ∷ [])
    ∙ ap (λ asks. grown before (prompted s m.past ++ asks)) (sym (at.3 space is))
    ∙ ap (λ b. grown before (prompted s m.past ++ (if b then ask_of s m.past p.number else []))) (sym answers)

-- no answer is told
pub no_ask : (s : Setting) (m : Kept) (p : ℕ) (seen : AskSeen) (before old : Option (List Asked)) → is_answered seen ≡ false → old ≡ grown before (prompted s m.past)
    → grown old [] ≡ grown before (prompted s (AskedFor p seen ∷ m.past))
no_ask s m p seen before old none told =
    grown_none old ∙ told ∙ ap (grown before) (sym (append-nil (prompted s m.past)))
    ∙ ap (λ b. grown before (prompted s m.past ++ (if b then ask_of s m.past p else []))) (sym none)

-- the user was asked, whatever space was kept before
pub asked_behind : (p : ℕ) (m k n : Kept) → k ≡ record m { space = None } → IsAskedIn p k.past n.past → IsAskedIn p m.past n.past
asked_behind p m k n same asked = (asked.0, asked.1 ∙ ap (λ (v : Kept). AskedFor p asked.0 ∷ v.past) same)

-- behind the prompter's answer the machine asks
pub asked_asks : (m n : Kept) (p : Prompt) (seen : AskSeen) → n.stage ≡ stage_asked p seen → n.given ≡ m.given → (seen ≡ AskGiven → IsSome m.given) → is_asking n ≡ true
asked_asks m n p seen now same kept = ap (λ st. is_some (need_at n st)) now ∙ by seen kept
  where
    named : (o : Option Login) → IsSome o → is_some (option_map TextNo o) ≡ true
    named None e = absurd (false≢true e)
    named (Some login) e = refl

    by : (x : AskSeen) → (x ≡ AskGiven → IsSome m.given) → is_some (need_at n (stage_asked p x)) ≡ true
    by AskGiven k = named n.given (subst IsSome (sym same) (k refl))
    by Cancel k = refl
    by (AskFailed count) k = refl
    by AskNoMemory k = refl
