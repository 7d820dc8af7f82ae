-- What a prompter tells of a request, from turn to turn.
use Rattle.std.proofs.Common.{◌≡◌, inl, inr, ℕ, ◌+◌, ◌==◌, Bool, true, false, ◌&&◌, IsTrue, IfSome, List, [], ◌∷◌, ◌++◌, Some, None, unwrap_or, refl, sym, ap, ◌∙◌, subst, arith, if◌then◌else◌}
use Rattle.std.specs.declared.option.Option.{Option}
use Rattle.std.specs.List.{list_all}
use Rattle.std.proofs.lemmas.Bool.{false≢true}
use Rattle.auth_text.specs.Login.{Login}
use Rattle.spaces.specs.declared.roster.Request.{Request}
use Rattle.spaces.specs.ProtectionSpaces.{ProtectionSpace}
use Rattle.auth_events.specs.declared.journal.Call.{Call}
use Rattle.auth_events.specs.declared.journal.Call.TheVariants.{Select}
use Rattle.auth_events.specs.declared.journal.BookReply.TheVariants.{Lead}
use Rattle.auth_events.specs.Pages.{fits}
use Rattle.link_trait.specs.Told.{grown}
use Rattle.link_trait.specs.declared.prompts.Ask.{Ask as Asked}
use Rattle.link_trait.specs.declared.prompts.AskSeen.{AskSeen}
use Rattle.link_trait.specs.declared.prompts.AskSeen.TheVariants.{Given, Cancel, Failed, NoMemory}
use Rattle.auth_runs.specs.declared.event.Event.{Event}
use Rattle.auth_runs.specs.declared.event.Event.TheVariants.{Called, Dialed, Headed, ReadFailed, Replied, Broken, AskedFor}
use Rattle.connection_binding.specs.declared.ends.ReadEnd.{ReadEnd}
use Rattle.connection_binding.specs.declared.ends.ReadEnd.TheVariants.{Whole, Broken as BrokenEnd, Lost, Failed as ReadEndFailed, NoMemory as ReadEndNoMemory}
use Rattle.link_trait.specs.declared.links.LinkName.{LinkName}
use Rattle.request_machine.specs.Linked.{Line, line}
use Rattle.request_machine.specs.Carried.{ReadsInto}
use Rattle.trace_rule.specs.Settings.{Setting}
use Rattle.trace_rule.specs.Traces.{IsPast, Follows, space_prompted}
use Rattle.trace_rule.specs.Telling.{prompted}
use Rattle.trace_rule.proofs.Stages.{asks_from, fits_of}
use Rattle.request_machine.specs.declared.stage.Prompt.{Prompt}
use Rattle.request_machine.specs.declared.stage.Stage.TheVariants.{Ask}
use Rattle.request_machine.specs.Kept.{Kept, Ties, IsStage, IsLed}
use Rattle.request_machine.specs.Asking.{IsAskedIn}
use Rattle.request_machine.specs.Failed.{ask_faults}
use Rattle.request_machine.specs.Prompted.{answer_to_first, answer_at, IsSeen, AreAnswered, HasGiven, IsSpaceLed, IsAnsweredBy, IsPrompted, is_unprompted, IsUnprompted, TellsPrompts}

-- WITHOUT THE PROMPTER

both_true : (a b : Bool) → (a && b) ≡ true → (a ≡ true) × (b ≡ true)
both_true true b e = (refl, e)
both_true false b e = absurd (false≢true e)

-- what a past says of prompts
record SaysTheSame (s : Setting) (answers : ProtectionSpace → ℕ → Option Login) (before now : List Event) : Type 0 where
  prompted : prompted s now ≡ prompted s before
  answered : AreAnswered s answers before → AreAnswered s answers now

says_more : (s : Setting) (answers : ProtectionSpace → ℕ → Option Login) (e : Event) (past : List Event) → is_unprompted e ≡ true → SaysTheSame s answers past (e ∷ past)
says_more s answers (Called call reply) past un = absurd (false≢true un)
says_more s answers (AskedFor p seen) past un = absurd (false≢true un)
says_more s answers _ past un = record { prompted = refl; answered = λ a. a }

says_same : (s : Setting) (answers : ProtectionSpace → ℕ → Option Login) (more past : List Event) → list_all is_unprompted more ≡ true → SaysTheSame s answers past (more ++ past)
says_same s answers [] past un = record { prompted = refl; answered = λ a. a }
says_same s answers (e ∷ more) past un =
    let parts = both_true (is_unprompted e) (list_all is_unprompted more) un in
    let rest = says_same s answers more past parts.1 in
    let one = says_more s answers e (more ++ past) parts.0 in
    record { prompted = one.prompted ∙ rest.prompted; answered = λ a. one.answered (rest.answered a) }

prompted_same : (s : Setting) (more past : List Event) → list_all is_unprompted more ≡ true → prompted s (more ++ past) ≡ prompted s past
prompted_same s more past un = (says_same s (λ space ordinal. None) more past un).prompted

-- behind an event of which no prompter tells no identity was given last, and no space is told
given_more : (s : Setting) (answers : ProtectionSpace → ℕ → Option Login) (e : Event) (past : List Event) (given : Option Login) → is_unprompted e ≡ true → HasGiven s answers (e ∷ past) given
given_more s answers (Called call reply) past given un = absurd (false≢true un)
given_more s answers (AskedFor p seen) past given un = absurd (false≢true un)
given_more s answers _ past given un = tt

given_same : (s : Setting) (answers : ProtectionSpace → ℕ → Option Login) (more past : List Event) (given : Option Login) → list_all is_unprompted more ≡ true → HasGiven s answers past given → HasGiven s answers (more ++ past) given
given_same s answers [] past given un h = h
given_same s answers (e ∷ more) past given un h = given_more s answers e (more ++ past) given (both_true (is_unprompted e) (list_all is_unprompted more) un).0

space_more : (s : Setting) (e : Event) (past : List Event) (space : Option ProtectionSpace) → is_unprompted e ≡ true → IsSpaceLed s (e ∷ past) space
space_more s (Called call reply) past space un = absurd (false≢true un)
space_more s (AskedFor p seen) past space un = absurd (false≢true un)
space_more s _ past space un = tt

space_same : (s : Setting) (more past : List Event) (space : Option ProtectionSpace) → list_all is_unprompted more ≡ true → IsSpaceLed s past space → IsSpaceLed s (more ++ past) space
space_same s [] past space un h = h
space_same s (e ∷ more) past space un h = space_more s e (more ++ past) space (both_true (is_unprompted e) (list_all is_unprompted more) un).0

answered_same : (s : Setting) (answers : ProtectionSpace → ℕ → Option Login) (m n : Kept) → IsUnprompted m n → IsAnsweredBy s answers m → IsAnsweredBy s answers n
answered_same s answers m n u a = record {
  seen = subst (AreAnswered s answers) (sym u.order) ((says_same s answers u.more m.past u.unprompted).answered a.seen);
  given = subst (λ past. HasGiven s answers past n.given) (sym u.order)
      (given_same s answers u.more m.past n.given u.unprompted (subst (HasGiven s answers m.past) (sym u.given) a.given));
}

-- what is so of an answer that stands for each prompt
pub if_some : {A : Type 0} {P Q : A → Type 0} (o : Option A) → ((a : A) → o ≡ Some a → P a → Q a) → IfSome o P → IfSome o Q
if_some None f p = tt
if_some (Some a) f p = f a refl p

pub prompts_unprompted : (request : Request) (m n : Kept) (answers : Option (ProtectionSpace → ℕ → Option Login)) (old new : Option (List Asked)) → IsUnprompted m n → new ≡ old → TellsPrompts request m n answers old new
prompts_unprompted request m n answers old new u untold = λ s before by t p. record {
  told = untold ∙ p.told ∙ ap (grown before) (sym (ap (prompted s) u.order ∙ prompted_same s u.more m.past u.unprompted));
  answered = if_some answers (λ a is. answered_same s a m n u) p.answered;
  space = subst (λ past. IsSpaceLed s past n.space) (sym u.order) (space_same s u.more m.past n.space u.unprompted (subst (IsSpaceLed s m.past) (sym u.space) p.space));
}

faults_more : (more past : List Event) → list_all is_unprompted more ≡ true → ask_faults (more ++ past) ≡ ask_faults past
faults_more [] past un = refl
faults_more (Called call reply ∷ more) past un = absurd (false≢true un)
faults_more (AskedFor p seen ∷ more) past un = absurd (false≢true un)
faults_more (_ ∷ more) past un = faults_more more past un

-- nor did it fail
pub unprompted_faults : (m n : Kept) → IsUnprompted m n → ask_faults n.past ≡ ask_faults m.past
unprompted_faults m n u = ap ask_faults u.order ∙ faults_more u.more m.past u.unprompted

-- no event came
pub unprompted_same : (m n : Kept) → n.past ≡ m.past → n.given ≡ m.given → n.space ≡ m.space → IsUnprompted m n
unprompted_same m n same given space = record { more = []; order = same; unprompted = refl; given = given; space = space }

pub unprompted_one : (m n : Kept) (e : Event) → n.past ≡ e ∷ m.past → is_unprompted e ≡ true → n.given ≡ m.given → n.space ≡ m.space → IsUnprompted m n
unprompted_one m n e one un given space = record { more = e ∷ []; order = one; unprompted = ap (λ b. b && true) un; given = given; space = space }

-- by the machine's line
pub unprompted_line : (m n : Kept) → n.past ≡ m.past → line n ≡ line m → IsUnprompted m n
unprompted_line m n same kept = unprompted_same m n same (ap (λ (l : Line). l.given) kept) (ap (λ (l : Line). l.space) kept)

pub unprompted_event : (m n : Kept) (e : Event) → n.past ≡ e ∷ m.past → is_unprompted e ≡ true → line n ≡ line m → IsUnprompted m n
unprompted_event m n e one un kept = unprompted_one m n e one un (ap (λ (l : Line). l.given) kept) (ap (λ (l : Line). l.space) kept)

pub unprompted_dialed : (m k n : Kept) (link : LinkName) → k ≡ record m { link = Some link } → n.past ≡ Dialed (k.links + 1) ∷ k.past → line n ≡ record (line k) { links = k.links + 1; is_dialed = true } → IsUnprompted m n
unprompted_dialed m k n link kept same lined =
    unprompted_one m n (Dialed (m.links + 1)) (same ∙ ap (λ (v : Kept). Dialed (v.links + 1) ∷ v.past) kept) refl
    (ap (λ (l : Line). l.given) lined ∙ ap (λ (v : Kept). v.given) kept) (ap (λ (l : Line). l.space) lined ∙ ap (λ (v : Kept). v.space) kept)

pub unprompted_headed : (m same k : Kept) (bytes : List ℕ) → same ≡ m → k.past ≡ Headed same.links bytes ∷ same.past → line k ≡ record (line same) { is_dialed = false } → IsUnprompted m k
unprompted_headed m same k bytes unchanged headed lined =
    unprompted_one m k (Headed m.links bytes) (headed ∙ ap (λ (v : Kept). Headed v.links bytes ∷ v.past) unchanged) refl
    (ap (λ (l : Line). l.given) lined ∙ ap (λ (v : Kept). v.given) unchanged) (ap (λ (l : Line). l.space) lined ∙ ap (λ (v : Kept). v.space) unchanged)

unprompted_read : (k n : Kept) (link : ℕ) (end : ReadEnd) → line n ≡ line k → ReadsInto link end k.past n.past → IsUnprompted k n
unprompted_read k n link (Whole reply) kept (inl same) = unprompted_event k n (Replied link reply) same refl kept
unprompted_read k n link (Whole reply) kept (inr same) = unprompted_line k n same kept
unprompted_read k n link (BrokenEnd fault) kept same = unprompted_event k n (Broken link fault) same refl kept
unprompted_read k n link Lost kept same = absurd same
unprompted_read k n link (ReadEndFailed count) kept same = unprompted_event k n (ReadFailed link count) same refl kept
unprompted_read k n link ReadEndNoMemory kept same = unprompted_line k n same kept

pub unprompted_reading : (m same k n : Kept) (link : ℕ) (end : ReadEnd) → same ≡ m → k ≡ record same { link = None } → line n ≡ line k → ReadsInto link end k.past n.past → IsUnprompted m n
unprompted_reading m same k n link end unchanged closed lined into =
    let u = unprompted_read k n link end lined into in
    record {
      more = u.more;
      order = u.order ∙ ap (λ (v : Kept). u.more ++ v.past) (closed ∙ ap (λ (v : Kept). record v { link = None }) unchanged);
      unprompted = u.unprompted;
      given = u.given ∙ ap (λ (v : Kept). v.given) closed ∙ ap (λ (v : Kept). v.given) unchanged;
      space = u.space ∙ ap (λ (v : Kept). v.space) closed ∙ ap (λ (v : Kept). v.space) unchanged;
    }

append_assoc_of : (a b c : List Event) → a ++ (b ++ c) ≡ (a ++ b) ++ c
append_assoc_of [] b c = refl
append_assoc_of (x ∷ a) b c = ap (λ xs. x ∷ xs) (append_assoc_of a b c)

all_more : (a b : List Event) → list_all is_unprompted a ≡ true → list_all is_unprompted b ≡ true → list_all is_unprompted (a ++ b) ≡ true
all_more [] b first second = second
all_more (x ∷ a) b first second =
    let parts = both_true (is_unprompted x) (list_all is_unprompted a) first in
    ap (λ c. c && list_all is_unprompted (a ++ b)) parts.0 ∙ all_more a b parts.1 second

pub unprompted_then : (m n k : Kept) → IsUnprompted m n → IsUnprompted n k → IsUnprompted m k
unprompted_then m n k a b = record {
  more = b.more ++ a.more;
  order = b.order ∙ ap (λ past. b.more ++ past) a.order ∙ append_assoc_of b.more a.more m.past;
  unprompted = all_more b.more a.more b.unprompted a.unprompted;
  given = b.given ∙ a.given;
  space = b.space ∙ a.space;
}

-- WHERE THE PROMPTER IS ASKED

same_number : (n : ℕ) → (n == n) ≡ true
same_number n = grind arith

-- the space that was told is that of the prompt
pub space_is_led : (s : Setting) (m : Kept) (p : Prompt) (ordinal : ℕ) (space : ProtectionSpace) → m.stage ≡ Ask p ordinal → Ties s m → IsSpaceLed s m.past (Some space) → s.space_of p.space ≡ Some space
space_is_led s m p ordinal space was t told =
    let stands : IsStage s m.past (Ask p ordinal) = subst (IsStage s m.past) was t.stage in
    let found = asks_from s m.past p.number Cancel stands.0 (subst (λ w. Follows s m.past w (AskedFor p.number Cancel)) (sym stands.1) refl) in
    let run : IsPast s (Called found.0 (Lead p.number found.1) ∷ found.2) = subst (IsPast s) found.3 stands.0 in
    at stands.2 found.0 found.1 found.2 found.3 (fits_of s found.2 found.0 (Lead p.number found.1) run.1)
  where
    at : IsLed s m.past p → (c : Call) (o : ℕ) (b : List Event) → m.past ≡ Called c (Lead p.number o) ∷ b → IsTrue (fits c (Lead p.number o)) → s.space_of p.space ≡ Some space
    at led (Select n terms) o b e f =
        let its : s.space_of n ≡ Some space = subst (λ past. IsSpaceLed s past (Some space)) e told in
        let same : n ≡ p.space = sym (ap (λ c. unwrap_or (if c then Some n else None) (space_prompted b p.number)) (same_number p.number)) ∙ sym (ap (λ past. space_prompted past p.number) e) ∙ led.space in
        subst (λ k. s.space_of k ≡ Some space) same its
    at led _ o b e f = absurd (false≢true f)

-- what was answered stands for the prompt
pub answered_asked : (s : Setting) (answers : ProtectionSpace → ℕ → Option Login) (m n : Kept) (p : Prompt) (ordinal : ℕ) (seen : AskSeen) (space : ProtectionSpace) → m.stage ≡ Ask p ordinal → Ties s m
    → s.space_of p.space ≡ Some space → n.past ≡ AskedFor p.number seen ∷ m.past → IsSeen (answers space ordinal) seen → (seen ≡ Given → n.given ≡ answers space ordinal) → AreAnswered s answers m.past → IsAnsweredBy s answers n
answered_asked s answers m n p ordinal seen space was t is past right given a = record {
  seen = subst (AreAnswered s answers) (sym past) (a, subst (λ answer. IsSeen answer seen) (sym stands_for) right);
  given = subst (λ xs. HasGiven s answers xs n.given) (sym past) (at seen given);
}
  where
    stands_for : answer_at s answers m.past p.number ≡ answers space ordinal
    stands_for = let stands : IsStage s m.past (Ask p ordinal) = subst (IsStage s m.past) was t.stage in ap (answer_to_first answers) (stands.3 space is)

    at : (x : AskSeen) → (x ≡ Given → n.given ≡ answers space ordinal) → HasGiven s answers (AskedFor p.number x ∷ m.past) n.given
    at Given f = f refl ∙ sym stands_for
    at Cancel f = tt
    at (Failed count) f = tt
    at NoMemory f = tt

-- a prompt was asked, in the space that was told
pub prompts_asked : (s : Setting) (before : Option (List Asked)) (answers : Option (ProtectionSpace → ℕ → Option Login)) (m n : Kept) (p : Prompt) (ordinal : ℕ) (space : ProtectionSpace) (old new : Option (List Asked))
    → m.stage ≡ Ask p ordinal → m.space ≡ Some space → Ties s m → IsAskedIn p.number m.past n.past
    → (s.space_of p.space ≡ Some space → old ≡ grown before (prompted s m.past) → new ≡ grown before (prompted s n.past))
    → (s.space_of p.space ≡ Some space → (a : ProtectionSpace → ℕ → Option Login) → answers ≡ Some a → AreAnswered s a m.past → IsAnsweredBy s a n)
    → IsPrompted s before answers m old → IsPrompted s before answers n new
prompts_asked s before answers m n p ordinal space old new was told_space t asked tells answered it =
    let is : s.space_of p.space ≡ Some space = space_is_led s m p ordinal space was t (subst (IsSpaceLed s m.past) told_space it.space) in
    record {
      told = tells is it.told;
      answered = if_some answers (λ a same by. answered is a same by.seen) it.answered;
      space = subst (λ past. IsSpaceLed s past n.space) (sym asked.1) tt;
    }
