-- What a prompter told of a request, behind what the caller gives.
use Rattle.std.proofs.Common.{◌≡◌, ℕ, ◌==◌, Bool, true, false, IfSome, List, [], ◌∷◌, Some, None, unwrap_or, refl, sym, ap, ◌∙◌, subst, arith, if◌then◌else◌}
use Rattle.std.specs.declared.option.Option.{Option}
use Rattle.std.proofs.lemmas.Bool.{false≢true}
use Rattle.auth_text.specs.Login.{Login}
use Rattle.spaces.specs.ProtectionSpaces.{ProtectionSpace}
use Rattle.spaces.specs.declared.site.Target.TheVariants.{Server, Proxy}
use Rattle.auth_events.specs.declared.journal.Call.{Call}
use Rattle.auth_events.specs.declared.journal.Call.TheVariants.{Select, Lose, End as CallEnd}
use Rattle.auth_events.specs.declared.journal.BookReply.{BookReply}
use Rattle.auth_events.specs.declared.journal.BookReply.TheVariants.{Lead, Lost, Ended as RequestEnded}
use Rattle.auth_events.specs.declared.journal.Gift.{Gift}
use Rattle.auth_events.specs.declared.journal.Loss.TheVariants.{Memory}
use Rattle.auth_events.specs.declared.journal.Drawn.{Drawn as CountDrawn}
use Rattle.link_trait.specs.Told.{grown}
use Rattle.link_trait.specs.declared.prompts.Ask.{Ask as Asked}
use Rattle.auth_runs.specs.declared.event.Event.{Event}
use Rattle.auth_runs.specs.declared.event.Event.TheVariants.{Called, Drew}
use Rattle.trace_rule.specs.Settings.{Setting}
use Rattle.trace_rule.specs.Moves.{Want}
use Rattle.trace_rule.specs.Moves.Want.{Asks}
use Rattle.trace_rule.specs.Traces.{space_prompted}
use Rattle.trace_rule.specs.Telling.{prompted}
use Rattle.request_machine.specs.declared.gave.Gave.{Gave}
use Rattle.request_machine.specs.declared.gave.Gave.TheVariants.{Reply, Space, Drawn}
use Rattle.request_machine.specs.declared.stage.Prompt.{Prompt}
use Rattle.request_machine.specs.declared.stage.Stage.{Stage}
use Rattle.request_machine.specs.declared.stage.Stage.TheVariants.{Call as Calling, Select as Selecting, Draw, Ask, Close, Spent, SpentEnd}
use Rattle.request_machine.specs.Kept.{Kept, Ties, IsStage}
use Rattle.request_machine.specs.Needs.{first_left}
use Rattle.request_machine.specs.Gives.{call_at, is_heard, past_replied, past_drawn, past_given, IsTold}
use Rattle.request_machine.specs.Linked.{way, line, IsLinkedOn, IsLinked}
use Rattle.request_machine.specs.Prompted.{AreAnswered, HasGiven, IsSpaceLed, IsAnsweredBy, IsPrompted, space_told, space_given}
use Rattle.request_machine.proofs.Answering.{if_some}

-- a past that tells no more of prompts; a space is kept where it was
record IsQuietPast (s : Setting) (m : Kept) (now : List Event) : Type 0 where
  asks : prompted s now ≡ prompted s m.past
  answered : (answers : ProtectionSpace → ℕ → Option Login) → AreAnswered s answers m.past → AreAnswered s answers now
  given : (answers : ProtectionSpace → ℕ → Option Login) → HasGiven s answers m.past m.given → HasGiven s answers now m.given
  space : IsSpaceLed s m.past m.space → IsSpaceLed s now m.space

nothing_more : (s : Setting) (m : Kept) → IsQuietPast s m m.past
nothing_more s m = record { asks = refl; answered = λ answers a. a; given = λ answers h. h; space = λ h. h }

abbrev is_select : Call → Bool
is_select (Select space terms) = true
is_select _ = false

called_space : (s : Setting) (past : List Event) (call : Call) (reply : BookReply) (space : Option ProtectionSpace) → (is_select call ≡ true → space ≡ None) → IsSpaceLed s (Called call reply ∷ past) space
called_space s past (Select n terms) (Lead p ordinal) space f = subst (λ o. IfSome o (λ named. s.space_of n ≡ Some named)) (sym (f refl)) tt
called_space s past _ reply space f = tt

one_call : (s : Setting) (m : Kept) (call : Call) (reply : BookReply) → (is_select call ≡ true → m.space ≡ None) → IsQuietPast s m (Called call reply ∷ m.past)
one_call s m call reply f = record {
  asks = refl;
  answered = λ answers a. a;
  given = λ answers h. tt;
  space = λ h. called_space s m.past call reply m.space f;
}

one_draw : (s : Setting) (m : Kept) (e : Event) → ((past : List Event) → prompted s (e ∷ past) ≡ prompted s past)
    → ((answers : ProtectionSpace → ℕ → Option Login) (past : List Event) → AreAnswered s answers past → AreAnswered s answers (e ∷ past))
    → ((answers : ProtectionSpace → ℕ → Option Login) (past : List Event) (given : Option Login) → HasGiven s answers (e ∷ past) given)
    → ((past : List Event) (space : Option ProtectionSpace) → IsSpaceLed s (e ∷ past) space) → IsQuietPast s m (e ∷ m.past)
one_draw s m e asks answered given space = record {
  asks = asks m.past;
  answered = λ answers a. answered answers m.past a;
  given = λ answers h. given answers m.past m.given;
  space = λ h. space m.past m.space;
}

-- before a choice no space is told
no_space : (m : Kept) (st : Stage) → IsLinkedOn (way st) (line m) → is_select (call_at st) ≡ true → m.space ≡ None
no_space m (Calling call) on e = on.1
no_space m (Selecting t n k) on e = on.1
no_space m (Close c) on e = absurd (false≢true (sym (at c.proxy c.server) ∙ e))
  where
    at : (a b : Option Gift) → is_select (first_left a b) ≡ false
    at None None = refl
    at None (Some gift) = refl
    at (Some gift) b = refl
no_space m _ on e = absurd (false≢true e)

quiet_replied : (s : Setting) (m : Kept) (reply : BookReply) (st : Stage) → IsLinkedOn (way st) (line m) → IsQuietPast s m (past_replied m st reply)
quiet_replied s m reply Spent on = at (m.prompt == 0)
  where
    at : (b : Bool) → IsQuietPast s m ((if b then Called CallEnd RequestEnded else Called (Lose m.prompt Memory) (Lost Memory)) ∷ m.past)
    at true = one_call s m CallEnd RequestEnded (λ e. absurd (false≢true e))
    at false = one_call s m (Lose m.prompt Memory) (Lost Memory) (λ e. absurd (false≢true e))
quiet_replied s m reply SpentEnd on = one_call s m CallEnd RequestEnded (λ e. absurd (false≢true e))
quiet_replied s m reply st on = at (is_heard st reply)
  where
    at : (b : Bool) → IsQuietPast s m (if b then Called (call_at st) reply ∷ m.past else m.past)
    at true = one_call s m (call_at st) reply (no_space m st on)
    at false = nothing_more s m

quiet_drawn : (s : Setting) (m : Kept) (drawn : CountDrawn) (st : Stage) → IsQuietPast s m (past_drawn m st drawn)
quiet_drawn s m drawn (Draw Proxy nonce) = one_draw s m (Drew Proxy nonce drawn.count drawn.epoch) (λ past. refl) (λ answers past a. a) (λ answers past given. tt) (λ past space. tt)
quiet_drawn s m drawn (Draw Server nonce) = one_draw s m (Drew Server nonce drawn.count drawn.epoch) (λ past. refl) (λ answers past a. a) (λ answers past given. tt) (λ past space. tt)
quiet_drawn s m drawn _ = nothing_more s m

quiet_given : (s : Setting) (m : Kept) (gave : Gave) → IsLinked m → IsQuietPast s m (past_given m gave)
quiet_given s m (Reply reply) linked = quiet_replied s m reply m.stage linked
quiet_given s m (Drawn drawn) linked = quiet_drawn s m drawn m.stage
quiet_given s m _ linked = nothing_more s m

-- THE SPACE OF A PROMPT

same_number : (n : ℕ) → (n == n) ≡ true
same_number n = grind arith

-- that of the prompt that is asked next is the one that led it
led_space : (s : Setting) (past : List Event) (p : Prompt) (ordinal : ℕ) (space : ProtectionSpace) → IsStage s past (Ask p ordinal) → s.space_of p.space ≡ Some space → IsSpaceLed s past (Some space)
led_space s (Called (Select n terms) (Lead q o) ∷ b) p ordinal space stands is = subst (λ k. s.space_of k ≡ Some space) (sym same) is
  where
    number_in : Want → ℕ
    number_in (Asks x) = x
    number_in _ = 0

    its_number : (q == p.number) ≡ true
    its_number = ap (λ x. x == p.number) (ap number_in stands.1) ∙ same_number p.number

    same : n ≡ p.space
    same = sym (ap (λ c. unwrap_or (if c then Some n else None) (space_prompted b p.number)) its_number) ∙ stands.2.space
led_space s _ p ordinal space stands is = tt

-- the space that is kept then
space_now : (s : Setting) (m : Kept) (gave : Gave) → Ties s m → IsTold s m m.stage gave → IsSpaceLed s m.past m.space → IsSpaceLed s (past_given m gave) m.space → IsSpaceLed s (past_given m gave) (space_given m gave)
space_now s m (Space space) t told before now = at m.stage t.stage told
  where
    at : (st : Stage) → IsStage s m.past st → IsTold s m st (Space space) → IsSpaceLed s m.past (space_told m st space)
    at (Ask p ordinal) stands is = led_space s m.past p ordinal space stands is
    at _ stands is = before
space_now s m _ t told before now = now

-- what is given keeps what the prompter told
pub prompted_given : (s : Setting) (before : Option (List Asked)) (answers : Option (ProtectionSpace → ℕ → Option Login)) (m n : Kept) (gave : Gave) (told : Option (List Asked)) → Ties s m → IsLinked m → IsTold s m m.stage gave
    → n.past ≡ past_given m gave → n.given ≡ m.given → n.space ≡ space_given m gave → IsPrompted s before answers m told → IsPrompted s before answers n told
prompted_given s before answers m n gave told t linked is_told past given space it =
    let q = quiet_given s m gave linked in
    record {
      told = it.told ∙ ap (grown before) (sym (ap (prompted s) past ∙ q.asks));
      answered = if_some answers (λ a is by. record {
        seen = subst (AreAnswered s a) (sym past) (q.answered a by.seen);
        given = subst (λ xs. HasGiven s a xs n.given) (sym past) (subst (HasGiven s a (past_given m gave)) (sym given) (q.given a by.given));
      }) it.answered;
      space = subst (λ xs. IsSpaceLed s xs n.space) (sym past) (subst (IsSpaceLed s (past_given m gave)) (sym space) (space_now s m gave t is_told it.space (q.space it.space)));
    }

-- AT FIRST

-- nothing was told of a request that has not begun
pub first_prompted : (s : Setting) (answers : Option (ProtectionSpace → ℕ → Option Login)) (m : Kept) (told : Option (List Asked)) → m.past ≡ [] → told ≡ grown told [] → IsPrompted s told answers m told
first_prompted s answers m told none same = record {
  told = same ∙ ap (λ past. grown told (prompted s past)) (sym none);
  answered = at answers;
  space = subst (λ past. IsSpaceLed s past m.space) (sym none) tt;
}
  where
    at : (o : Option (ProtectionSpace → ℕ → Option Login)) → IfSome o (λ answer. IsAnsweredBy s answer m)
    at None = tt
    at (Some a) = record { seen = subst (AreAnswered s a) (sym none) tt; given = subst (λ past. HasGiven s a past m.given) (sym none) tt }
