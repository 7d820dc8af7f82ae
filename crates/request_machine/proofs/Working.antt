-- With each answer less is left.
use Rattle.std.proofs.Common.{◌≡◌, ℕ, ◌<◌, ◌≤◌, Bool, true, false, IsTrue, ◌∷◌, length, nat_le, Option, Some, None, IfSome, is_some, option_map, refl, sym, ap, ◌∙◌, subst, arith, if◌then◌else◌}
use Rattle.std.proofs.lemmas.Bool.{false≢true}
use Rattle.auth_text.specs.Login.{Login}
use Rattle.spaces.specs.declared.site.Target.{Target}
use Rattle.spaces.specs.declared.site.Target.TheVariants.{Server, Proxy, Socks}
use Rattle.spaces.specs.declared.terms.Terms.{Terms}
use Rattle.spaces.specs.ProtectionSpaces.{ProtectionSpace}
use Rattle.auth_events.specs.declared.journal.Gift.{Gift}
use Rattle.auth_events.specs.declared.controller.TermsRef.{TermsRef}
use Rattle.auth_events.specs.declared.journal.BookReply.{BookReply}
use Rattle.auth_events.specs.declared.journal.Drawn.{Drawn as CountDrawn}
use Rattle.auth_runs.specs.declared.event.Event.{Event}
use Rattle.link_trait.specs.declared.prompts.AskSeen.{AskSeen}
use Rattle.link_trait.specs.declared.prompts.AskSeen.TheVariants.{Given as AskGiven, Cancel, Failed as AskFailed, NoMemory as AskNoMemory}
use Rattle.trace_rule.specs.Settings.{Setting}
use Rattle.request_machine.specs.declared.gave.Gave.TheVariants.{Reply, Number, Ref, NoMemory, Drawn}
use Rattle.request_machine.specs.declared.holding.Holding.{Holding}
use Rattle.request_machine.specs.declared.holding.NamedTerms.{NamedTerms}
use Rattle.request_machine.specs.declared.stage.Closing.{Closing}
use Rattle.request_machine.specs.declared.stage.Piece.{Piece}
use Rattle.request_machine.specs.declared.stage.Piece.TheVariants.{Space, Identity, Terms as NamesOf}
use Rattle.request_machine.specs.declared.need.Need.TheVariants.{SpaceOf}
use Rattle.request_machine.specs.declared.stage.Prompt.{Prompt}
use Rattle.request_machine.specs.declared.stage.Stage.{Stage}
use Rattle.request_machine.specs.declared.stage.Stage.TheVariants.{Go, Learn, Draw, Choose, NameSpace, NameTerms, Select as Selecting, Ask, NameText, NameRenewal, NextNonce, NameLast, Close, Spent}
use Rattle.request_machine.specs.Kept.{Kept, IsKept, Ties, holding}
use Rattle.request_machine.specs.Asking.{stage_asked}
use Rattle.request_machine.specs.Changed.{put_held}
use Rattle.request_machine.specs.Needs.{need_at, need_of}
use Rattle.request_machine.specs.Renewals.{stage_answered, stage_behind}
use Rattle.request_machine.specs.Told.{IsLack, IsLacking, with_space, with_identity, with_named}
use Rattle.request_machine.specs.Turns.{is_asking}
use Rattle.request_machine.specs.Work.{is_waiting, is_answer, stage_told, untold, pieces_left, answers_at, answers_left, work_left}

-- AT MOST TEN ANSWERS

three : (stage : Stage) → answers_at stage ≤ 3
three (Choose t) = omega arith
three (NameSpace t) = omega arith
three (NameTerms t space) = omega arith
three _ = omega arith

one : {A : Type 0} (o : Option A) → untold o ≤ 1
one None = omega arith
one (Some a) = omega arith

pieces_few : (o : Option Holding) → pieces_left o ≤ 3
pieces_few None = omega arith
pieces_few (Some h) = omega (arith, one h.space, one h.identity, one h.named)

few_answers : (m : Kept) → answers_left m ≤ 10
few_answers m = omega (arith, three m.stage, pieces_few m.proxy, pieces_few m.server, one m.space)

-- AN EVENT

pub longer_less : (m n : Kept) → length m.past < length n.past → length m.past < 256 → work_left n < work_left m
unfolding work_left
longer_less m n longer few = omega (arith, few_answers n, longer, few)

pub pushed_less : (m n : Kept) (event : Event) → n.past ≡ event ∷ m.past → length m.past < 256 → work_left n < work_left m
pushed_less m n event is few = longer_less m n (omega (arith, ap length is)) few

pub less_left : (m n : Kept) → work_left n < work_left m → work_left n ≤ work_left m
less_left m n less = omega arith

pub twice_less : (m k n : Kept) (first second : Event) → k.past ≡ first ∷ m.past → n.past ≡ second ∷ k.past → length m.past < 250 → work_left n < work_left m
twice_less m k n first second one_more two_more room =
    let longer : length n.past ≡ length (second ∷ first ∷ m.past) = ap length (two_more ∙ ap (λ l. second ∷ l) one_more) in
    longer_less m n (omega (arith, longer)) (omega (arith, room))

pub left_then : (m k n : Kept) → work_left k < work_left m → work_left n ≤ work_left k → work_left n ≤ work_left m
left_then m k n less left = omega arith

-- ANOTHER STAGE

-- what is held stays, and the space that is asked for
same_left : (m n : Kept) → n.past ≡ m.past → n.proxy ≡ m.proxy → n.server ≡ m.server → n.space ≡ m.space → answers_at n.stage ≤ answers_at m.stage → work_left n ≤ work_left m
unfolding work_left
same_left m n past proxy server space less =
    omega (arith, less, ap length past, ap pieces_left proxy, ap pieces_left server, ap untold space)

same_less : (m n : Kept) → n.past ≡ m.past → n.proxy ≡ m.proxy → n.server ≡ m.server → n.space ≡ m.space → answers_at n.stage < answers_at m.stage → work_left n < work_left m
unfolding work_left
same_less m n past proxy server space less =
    omega (arith, less, ap length past, ap pieces_left proxy, ap pieces_left server, ap untold space)

pub stage_left : (m : Kept) (was now : Stage) → m.stage ≡ was → answers_at now ≤ answers_at was → work_left (record m { stage = now }) ≤ work_left m
stage_left m was now same less = same_left m (record m { stage = now }) refl refl refl refl (subst (λ st. answers_at now ≤ answers_at st) (sym same) less)

pub spent_left : (m : Kept) → work_left (record m { stage = Spent }) ≤ work_left m
spent_left m = stage_left m m.stage Spent refl (omega arith)

pub learn_left : (m : Kept) (t : Target) (piece : Piece) → m.stage ≡ Go → work_left (record m { stage = Learn t piece }) ≤ work_left m
learn_left m t piece same = stage_left m Go (Learn t piece) same (omega arith)

pub draw_left : (m : Kept) (t : Target) (nonce : ℕ) → m.stage ≡ Go → work_left (record m { stage = Draw t nonce }) ≤ work_left m
draw_left m t nonce same = stage_left m Go (Draw t nonce) same (omega arith)

pub resume_left : (m : Kept) (t : Target) (piece : Piece) → m.stage ≡ Learn t piece → work_left (record m { stage = Go }) ≤ work_left m
resume_left m t piece same = stage_left m (Learn t piece) Go same (omega arith)

pub picked_left : (m : Kept) (t : Target) (space : Option ProtectionSpace) (terms : Option Terms) → m.stage ≡ Choose t → work_left (record m { unnamed_space = space; unnamed_terms = terms; stage = NameSpace t }) ≤ work_left m
picked_left m t space terms same =
    same_left m (record m { unnamed_space = space; unnamed_terms = terms; stage = NameSpace t }) refl refl refl refl (subst (λ st. 3 ≤ answers_at st) (sym same) (omega arith))

pub renews_left : (m : Kept) (t : Target) (c : Closing) (gift : Gift) (terms : Option Terms) → m.stage ≡ NextNonce t c → work_left (record m { unnamed_terms = terms; stage = NameLast t gift c }) ≤ work_left m
renews_left m t c gift terms same = same_left m (record m { unnamed_terms = terms; stage = NameLast t gift c }) refl refl refl refl (subst (λ st. 2 ≤ answers_at st) (sym same) (omega arith))

pub behind_left : (m : Kept) (t : Target) (c : Closing) → m.stage ≡ NextNonce t c → work_left (record m { stage = stage_behind t c }) ≤ work_left m
behind_left m t c same = stage_left m (NextNonce t c) (stage_behind t c) same (at t)
  where
    at : (x : Target) → answers_at (stage_behind x c) ≤ 2
    at Proxy = omega arith
    at Server = omega arith
    at Socks = omega arith

-- NO NUMBER WAITS

pub behind_free : (t : Target) (c : Closing) → is_waiting (stage_behind t c) ≡ false
behind_free Proxy c = refl
behind_free Server c = refl
behind_free Socks c = refl

pub asked_free : (p : Prompt) (seen : AskSeen) → is_waiting (stage_asked p seen) ≡ false
asked_free p AskGiven = refl
asked_free p Cancel = refl
asked_free p (AskFailed count) = refl
asked_free p AskNoMemory = refl

pub answered_free : (rounds : ℕ) (c : Closing) → is_waiting (stage_answered rounds c) ≡ false
answered_free rounds c = at (nat_le rounds 14)
  where
    at : (b : Bool) → is_waiting (if b then NextNonce Proxy c else Close c) ≡ false
    at true = refl
    at false = refl

-- the link plays no part
pub linked_left : (m n : Kept) → n ≡ record m { link = n.link } → work_left n ≡ work_left m
unfolding work_left
linked_left m n same = ap work_left same

pub settled_left : (m k n : Kept) → work_left k ≤ work_left m → n ≡ record k { link = n.link } → work_left n ≤ work_left m
settled_left m k n left same = let e : work_left n ≡ work_left k = linked_left k n same in omega (arith, left, e)

-- the link was closed behind a reading
closed_same : (m same k : Kept) → same ≡ m → k ≡ record same { link = None } → work_left k ≡ work_left m
unfolding work_left
closed_same m same k unchanged closed = ap work_left (closed ∙ ap (λ (v : Kept). record v { link = None }) unchanged)

pub closed_left : (m same k n : Kept) → same ≡ m → k ≡ record same { link = None } → work_left n ≤ work_left k → work_left n ≤ work_left m
closed_left m same k n unchanged closed left = let e = closed_same m same k unchanged closed in omega (arith, left, e)

pub closed_pushed : (m same k n : Kept) (event : Event) → same ≡ m → k ≡ record same { link = None } → n.past ≡ event ∷ k.past → length m.past < 250 → work_left n ≤ work_left m
closed_pushed m same k n event unchanged closed pushed room =
    less_left m n (pushed_less m n event (pushed ∙ ap (λ (v : Kept). event ∷ v.past) (closed ∙ ap (λ (v : Kept). record v { link = None }) unchanged)) (omega (arith, room)))

-- AN ANSWER

no_answer : {A : Type 0} → IsTrue false → A
no_answer e = absurd (false≢true e)

pub no_reply : (stage : Stage) (reply : BookReply) → is_answer stage (Reply reply) ≡ false
no_reply (NameSpace t) reply = refl
no_reply (Learn t Space) reply = refl
no_reply (Learn t Identity) reply = refl
no_reply (Learn t NamesOf) reply = refl
no_reply _ reply = refl

pub no_draw : (stage : Stage) (drawn : CountDrawn) → is_answer stage (Drawn drawn) ≡ false
no_draw (NameSpace t) drawn = refl
no_draw (Learn t Space) drawn = refl
no_draw (Learn t Identity) drawn = refl
no_draw (Learn t NamesOf) drawn = refl
no_draw _ drawn = refl

-- where an answer leads, less is awaited
number_falls : (m : Kept) (stage : Stage) (n : ℕ) → IsTrue (is_answer stage (Number n)) → answers_at (stage_told m stage (Number n)) < answers_at stage
number_falls m (NameSpace t) n is = at (is_some m.unnamed_terms)
  where
    at : (b : Bool) → answers_at (if b then NameTerms t n else Selecting t n 0) < 3
    at true = omega arith
    at false = omega arith
number_falls m (NameText p) n is = omega arith
number_falls m (Learn t Space) n is = no_answer is
number_falls m (Learn t Identity) n is = no_answer is
number_falls m (Learn t NamesOf) n is = no_answer is
number_falls m _ n is = no_answer is

ref_falls : (m : Kept) (stage : Stage) (numbers : TermsRef) → IsTrue (is_answer stage (Ref numbers)) → answers_at (stage_told m stage (Ref numbers)) < answers_at stage
ref_falls m (NameTerms t space) numbers is = omega arith
ref_falls m (NameRenewal t gift) numbers is = omega arith
ref_falls m (NameLast t gift c) numbers is = omega arith
ref_falls m (Learn t Space) numbers is = no_answer is
ref_falls m (Learn t Identity) numbers is = no_answer is
ref_falls m (Learn t NamesOf) numbers is = no_answer is
ref_falls m _ numbers is = no_answer is

untold_falls : (m : Kept) (stage : Stage) → IsTrue (is_answer stage NoMemory) → answers_at (stage_told m stage NoMemory) < answers_at stage
untold_falls m (NameSpace t) is = omega arith
untold_falls m (NameTerms t space) is = omega arith
untold_falls m (NameText p) is = omega arith
untold_falls m (NameRenewal t gift) is = omega arith
untold_falls m (NameLast t gift c) is = omega arith
untold_falls m (Learn t Space) is = omega arith
untold_falls m (Learn t Identity) is = omega arith
untold_falls m (Learn t NamesOf) is = omega arith
untold_falls m (Ask p ordinal) is = omega arith
untold_falls m _ is = no_answer is

staged_less : (m n : Kept) (now : Stage) → n ≡ record m { stage = n.stage } → n.stage ≡ now → answers_at now < answers_at m.stage → work_left n < work_left m
staged_less m n now same is less =
    same_less m n (ap (λ (v : Kept). v.past) same) (ap (λ (v : Kept). v.proxy) same) (ap (λ (v : Kept). v.server) same) (ap (λ (v : Kept). v.space) same) (subst (λ st. answers_at st < answers_at m.stage) (sym is) less)

pub number_less : (m n : Kept) (k : ℕ) → n ≡ record m { stage = n.stage } → n.stage ≡ stage_told m m.stage (Number k) → IsTrue (is_answer m.stage (Number k)) → work_left n < work_left m
number_less m n k same is answers = staged_less m n (stage_told m m.stage (Number k)) same is (number_falls m m.stage k answers)

pub ref_less : (m n : Kept) (numbers : TermsRef) → n ≡ record m { stage = n.stage } → n.stage ≡ stage_told m m.stage (Ref numbers) → IsTrue (is_answer m.stage (Ref numbers)) → work_left n < work_left m
ref_less m n numbers same is answers = staged_less m n (stage_told m m.stage (Ref numbers)) same is (ref_falls m m.stage numbers answers)

pub untold_less : (m n : Kept) → n ≡ record m { stage = n.stage } → n.stage ≡ stage_told m m.stage NoMemory → IsTrue (is_answer m.stage NoMemory) → work_left n < work_left m
untold_less m n same is answers = staged_less m n (stage_told m m.stage NoMemory) same is (untold_falls m m.stage answers)

-- WHAT THE BOOK TELLS OF IT

-- a piece that is lacking is told
falls_by : (piece : Piece) (told : Holding → Holding) → ((h : Holding) → IsLack piece h → pieces_left (Some (told h)) < pieces_left (Some h)) → (o : Option Holding) → IsLacking piece o → pieces_left (option_map told o) < pieces_left o
falls_by piece told falls None lack = absurd lack
falls_by piece told falls (Some h) lack = falls h lack

learned_less : (m : Kept) (t : Target) (piece : Piece) (told : Holding → Holding) → ((h : Holding) → IsLack piece h → pieces_left (Some (told h)) < pieces_left (Some h)) → m.stage ≡ Learn t piece → IsLacking piece (holding m t)
    → work_left (record (put_held t (option_map told (holding m t)) m) { stage = Go }) < work_left m
unfolding work_left
learned_less m Proxy piece told falls same lack = let less = falls_by piece told falls m.proxy lack in omega (arith, less, ap answers_at same)
learned_less m Server piece told falls same lack = let less = falls_by piece told falls m.server lack in omega (arith, less, ap answers_at same)
learned_less m Socks piece told falls same lack = absurd lack

pub space_less : (m : Kept) (t : Target) (space : ProtectionSpace) → m.stage ≡ Learn t Space → IsLacking Space (holding m t) → work_left (record (put_held t (option_map (with_space space) (holding m t)) m) { stage = Go }) < work_left m
space_less m t space same lack = learned_less m t Space (with_space space) (λ h none. omega (arith, ap untold none)) same lack

pub identity_less : (m : Kept) (t : Target) (identity : Login) → m.stage ≡ Learn t Identity → IsLacking Identity (holding m t) → work_left (record (put_held t (option_map (with_identity identity) (holding m t)) m) { stage = Go }) < work_left m
identity_less m t identity same lack = learned_less m t Identity (with_identity identity) (λ h none. omega (arith, ap untold none.0)) same lack

pub terms_less : (m : Kept) (t : Target) (named : NamedTerms) → m.stage ≡ Learn t NamesOf → IsLacking NamesOf (holding m t) → work_left (record (put_held t (option_map (with_named named) (holding m t)) m) { stage = Go }) < work_left m
terms_less m t named same lack = learned_less m t NamesOf (with_named named) (λ h none. omega (arith, ap untold none.1)) same lack

-- the space of the prompt that is asked next was told
pub spaced_less : (m : Kept) (space : ProtectionSpace) → m.space ≡ None → work_left (record m { space = Some space }) < work_left m
unfolding work_left
spaced_less m space none = omega (arith, ap untold none)

-- what is asked for is lacking
pub asked_lacks : (s : Setting) (m : Kept) (t : Target) (piece : Piece) → m.stage ≡ Learn t piece → is_asking m ≡ true → Ties s m → IsLacking piece (holding m t)
asked_lacks s m t piece same asks ties = at (holding m t) (subst (IsKept s m) same ties.kept) (sym (ap (λ st. is_some (need_at m st)) same) ∙ asks)
  where
    at : (o : Option Holding) → IfSome o (IsLack piece) → is_some (option_map (need_of piece) o) ≡ true → IsLacking piece o
    at None lack some = absurd (false≢true some)
    at (Some h) lack some = lack

pub asked_space : (m : Kept) (p : Prompt) (ordinal : ℕ) → m.stage ≡ Ask p ordinal → is_asking m ≡ true → m.space ≡ None
asked_space m p ordinal same asks = at m.space (sym (ap (λ st. is_some (need_at m st)) same) ∙ asks)
  where
    at : (o : Option ProtectionSpace) → is_some (if is_some o then None else Some (SpaceOf p.space)) ≡ true → o ≡ None
    at None some = refl
    at (Some space) some = absurd (false≢true some)
