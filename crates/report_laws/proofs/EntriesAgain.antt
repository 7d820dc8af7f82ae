-- The line of an entry is read as that entry.
use Rattle.std.proofs.Common.{◌≡◌, ℕ, ◌^◌, ◌<◌, ◌==◌, ◌&&◌, Bool, true, false, List, [], ◌∷◌, ◌++◌, codes, Some, refl, sym, ap, ◌∙◌, arith, append_assoc, append-nil}
use Rattle.std.specs.Prelude.{bytes_eq}
use Rattle.std.specs.List.{list_all}
use Rattle.std.specs.Char.{is_ascii_digit}
use Rattle.std.specs.Fmt.{decimal}
use Rattle.std.proofs.lemmas.Bool.Decides.{nat_tests}
use Rattle.report_reading.proofs.Tests.{both}
use Rattle.std.proofs.lemmas.Bool.{false≢true}
use Rattle.std.proofs.lemmas.List.Folds.{list_all-append}
use Rattle.spaces.specs.declared.site.Target.{Target}
use Rattle.spaces.specs.declared.site.Target.TheVariants.{Server, Proxy, Socks}
use Rattle.auth_events.specs.declared.journal.Loss.{Loss}
use Rattle.auth_events.specs.declared.journal.Loss.TheVariants.{Fault, Memory}
use Rattle.auth_events.specs.declared.journal.Entry.{Entry}
use Rattle.auth_events.specs.declared.journal.Call.{Call}
use Rattle.auth_events.specs.declared.journal.Call.TheVariants.{Begin, Preempt, Select, Reject, Renew, Answer, Lose, Take, Note, End, Draw}
use Rattle.auth_events.specs.declared.journal.BookReply.{BookReply}
use Rattle.auth_events.specs.declared.journal.BookReply.TheVariants.{Begun, Ready, Nothing, Url, Cached, Default, Follow, Lead, Removed, Kept, Renewed, Given, Cancelled, Lost, Pending, Gave, Noted, Ended, Drawn}
use Rattle.auth_events.specs.Pages.{fits}
use Rattle.report_lines.specs.EntryLines.{entry_line, call_word, call_values, reply_word, reply_values}
use Rattle.report_laws.specs.Ranges.{LossHolds, CallHolds, ReplyHolds, EntryHolds}
use Rattle.report_reading.specs.Words.{words, ◌>>=◌}
use Rattle.report_reading.specs.EntryForms.{entry_form, call_of, reply_of, is_equals, behind_equals}
use Rattle.report_reading.specs.Reading.{if_written, if_fits, entry_at}
use Rattle.report_laws.proofs.NumberLemmas.{digits_decimal, small_again, count_again}
use Rattle.report_laws.proofs.WordLemmas.{plain, all_plain, joins, words_again, plain_decimal}
use Rattle.report_laws.proofs.LinesAgain.{taken, target_name, target_is, target_again, target_plain}

-- WORDS

abbrev loss_names : Loss → List (List ℕ)
loss_names (Fault n) = codes "fault" ∷ decimal n ∷ []
loss_names Memory = codes "memory" ∷ []

abbrev call_names : Call → List (List ℕ)
call_names Begin = codes "begin" ∷ []
call_names (Preempt target) = codes "preempt" ∷ target_name target ∷ []
call_names (Select s t) = codes "select" ∷ decimal s ∷ decimal t ∷ []
call_names (Reject s o) = codes "reject" ∷ decimal s ∷ decimal o ∷ []
call_names (Renew g t) = codes "renew" ∷ decimal g.space ∷ decimal g.ordinal ∷ decimal t ∷ []
call_names (Answer p x t) = codes "answer" ∷ decimal p ∷ decimal x ∷ decimal t ∷ []
call_names (Lose p loss) = codes "lose" ∷ decimal p ∷ loss_names loss
call_names (Take p) = codes "take" ∷ decimal p ∷ []
call_names (Note g) = codes "note" ∷ decimal g.space ∷ decimal g.ordinal ∷ []
call_names End = codes "end" ∷ []
call_names (Draw n) = codes "draw" ∷ decimal n ∷ []

abbrev reply_names : BookReply → List (List ℕ)
reply_names Begun = codes "begun" ∷ []
reply_names (Ready g t e) = codes "ready" ∷ decimal g.space ∷ decimal g.ordinal ∷ decimal t ∷ decimal e ∷ []
reply_names Nothing = codes "nothing" ∷ []
reply_names (Url g e) = codes "url" ∷ decimal g.space ∷ decimal g.ordinal ∷ decimal e ∷ []
reply_names (Cached g) = codes "cached" ∷ decimal g.space ∷ decimal g.ordinal ∷ []
reply_names Default = codes "default" ∷ []
reply_names (Follow p) = codes "follow" ∷ decimal p ∷ []
reply_names (Lead p o) = codes "lead" ∷ decimal p ∷ decimal o ∷ []
reply_names Removed = codes "removed" ∷ []
reply_names (Kept o) = codes "kept" ∷ decimal o ∷ []
reply_names Renewed = codes "renewed" ∷ []
reply_names (Given g e) = codes "given" ∷ decimal g.space ∷ decimal g.ordinal ∷ decimal e ∷ []
reply_names Cancelled = codes "cancelled" ∷ []
reply_names (Lost loss) = codes "lost" ∷ loss_names loss
reply_names Pending = codes "pending" ∷ []
reply_names (Gave g) = codes "gave" ∷ decimal g.space ∷ decimal g.ordinal ∷ []
reply_names Noted = codes "noted" ∷ []
reply_names Ended = codes "ended" ∷ []
reply_names (Drawn n e) = codes "drawn" ∷ decimal n ∷ decimal e ∷ []

by_two : (t a b : List ℕ) → t ++ (a ++ b) ≡ (t ++ a) ++ b
by_two t a b = sym (append_assoc t a b)

by_three : (t a b c : List ℕ) → t ++ ((a ++ b) ++ c) ≡ ((t ++ a) ++ b) ++ c
by_three t a b c = simp append_assoc

by_four : (t a b c d : List ℕ) → t ++ ((a ++ b) ++ (c ++ d)) ≡ (((t ++ a) ++ b) ++ c) ++ d
by_four t a b c d = simp append_assoc

by_loss : (t a b c : List ℕ) → t ++ (a ++ (b ++ c)) ≡ ((t ++ a) ++ b) ++ c
by_loss t a b c = simp append_assoc

nothing_behind : (t : List ℕ) → t ++ [] ≡ t
nothing_behind t = simp append-nil

call_is : (t : List ℕ) (call : Call) → (t ++ call_word call) ++ call_values call ≡ joins t (call_names call)
call_is t Begin = nothing_behind (t ++ codes " begin")
call_is t (Preempt target) = rw (target_is target) refl
call_is t (Select s o) = by_two (t ++ codes " select") (32 ∷ decimal s) (32 ∷ decimal o)
call_is t (Reject s o) = by_two (t ++ codes " reject") (32 ∷ decimal s) (32 ∷ decimal o)
call_is t (Renew g o) = by_three (t ++ codes " renew") (32 ∷ decimal g.space) (32 ∷ decimal g.ordinal) (32 ∷ decimal o)
call_is t (Answer p x o) = by_three (t ++ codes " answer") (32 ∷ decimal p) (32 ∷ decimal x) (32 ∷ decimal o)
call_is t (Lose p (Fault n)) = by_loss (t ++ codes " lose") (32 ∷ decimal p) (codes " fault") (32 ∷ decimal n)
call_is t (Lose p Memory) = by_two (t ++ codes " lose") (32 ∷ decimal p) (codes " memory")
call_is t (Take p) = refl
call_is t (Note g) = by_two (t ++ codes " note") (32 ∷ decimal g.space) (32 ∷ decimal g.ordinal)
call_is t End = nothing_behind (t ++ codes " end")
call_is t (Draw n) = refl

reply_is : (t : List ℕ) (reply : BookReply) → (t ++ reply_word reply) ++ reply_values reply ≡ joins t (reply_names reply)
reply_is t Begun = nothing_behind (t ++ codes " begun")
reply_is t (Ready g o e) = by_four (t ++ codes " ready") (32 ∷ decimal g.space) (32 ∷ decimal g.ordinal) (32 ∷ decimal o) (32 ∷ decimal e)
reply_is t Nothing = nothing_behind (t ++ codes " nothing")
reply_is t (Url g e) = by_three (t ++ codes " url") (32 ∷ decimal g.space) (32 ∷ decimal g.ordinal) (32 ∷ decimal e)
reply_is t (Cached g) = by_two (t ++ codes " cached") (32 ∷ decimal g.space) (32 ∷ decimal g.ordinal)
reply_is t Default = nothing_behind (t ++ codes " default")
reply_is t (Follow p) = refl
reply_is t (Lead p o) = by_two (t ++ codes " lead") (32 ∷ decimal p) (32 ∷ decimal o)
reply_is t Removed = nothing_behind (t ++ codes " removed")
reply_is t (Kept o) = refl
reply_is t Renewed = nothing_behind (t ++ codes " renewed")
reply_is t (Given g e) = by_three (t ++ codes " given") (32 ∷ decimal g.space) (32 ∷ decimal g.ordinal) (32 ∷ decimal e)
reply_is t Cancelled = nothing_behind (t ++ codes " cancelled")
reply_is t (Lost (Fault n)) = by_two (t ++ codes " lost") (codes " fault") (32 ∷ decimal n)
reply_is t (Lost Memory) = refl
reply_is t Pending = nothing_behind (t ++ codes " pending")
reply_is t (Gave g) = by_two (t ++ codes " gave") (32 ∷ decimal g.space) (32 ∷ decimal g.ordinal)
reply_is t Noted = nothing_behind (t ++ codes " noted")
reply_is t Ended = nothing_behind (t ++ codes " ended")
reply_is t (Drawn n e) = by_two (t ++ codes " drawn") (32 ∷ decimal n) (32 ∷ decimal e)

pub joins_append : (t : List ℕ) (ws vs : List (List ℕ)) → joins (joins t ws) vs ≡ joins t (ws ++ vs)
joins_append t [] vs = refl
joins_append t (w ∷ ws) vs = joins_append (t ++ 32 ∷ w) ws vs

abbrev pub entry_words : Entry → List (List ℕ)
entry_words entry = decimal entry.caller ∷ decimal entry.request ∷ call_names entry.call ++ (codes "=" ∷ reply_names entry.reply)

pub line_is : (entry : Entry) → entry_line entry ≡ joins (codes "e") (entry_words entry) ++ 10 ∷ []
line_is entry =
    let head : List ℕ = codes "e" ++ (32 ∷ decimal entry.caller ++ 32 ∷ decimal entry.request) in
    let heads : head ≡ joins (codes "e") (decimal entry.caller ∷ decimal entry.request ∷ []) = by_two (codes "e") (32 ∷ decimal entry.caller) (32 ∷ decimal entry.request) in
    ap (λ (text : List ℕ). (((text ++ codes " =") ++ reply_word entry.reply) ++ reply_values entry.reply) ++ 10 ∷ []) (call_is head entry.call)
    ∙ ap (λ (text : List ℕ). text ++ 10 ∷ []) (reply_is (joins head (call_names entry.call) ++ codes " =") entry.reply)
    ∙ ap (λ (text : List ℕ). joins text (codes "=" ∷ reply_names entry.reply) ++ 10 ∷ []) (ap (λ (text : List ℕ). joins text (call_names entry.call)) heads)
    ∙ ap (λ (text : List ℕ). text ++ 10 ∷ [])
    (joins_append (joins (codes "e") (decimal entry.caller ∷ decimal entry.request ∷ [])) (call_names entry.call) (codes "=" ∷ reply_names entry.reply))

-- PLAIN

pub small_plain : (n : ℕ) → n < 2 ^ 32 → plain (decimal n) ≡ true
small_plain n h = plain_decimal n (omega (arith, h))

loss_plain : (loss : Loss) → LossHolds loss → all_plain (loss_names loss) ≡ true
loss_plain (Fault n) h = rw (plain_decimal n h) refl
loss_plain Memory h = refl

call_plain : (call : Call) → CallHolds call → all_plain (call_names call) ≡ true
call_plain Begin h = refl
call_plain (Preempt target) h = rw (target_plain target) refl
call_plain (Select s o) h = rw (small_plain s h.0, small_plain o h.1) refl
call_plain (Reject s o) h = rw (small_plain s h.0, small_plain o h.1) refl
call_plain (Renew g o) h = rw (small_plain g.space h.0.0, small_plain g.ordinal h.0.1, small_plain o h.1) refl
call_plain (Answer p x o) h = rw (small_plain p h.0, small_plain x h.1, small_plain o h.2) refl
call_plain (Lose p loss) h = rw (small_plain p h.0, loss_plain loss h.1) refl
call_plain (Take p) h = rw (small_plain p h) refl
call_plain (Note g) h = rw (small_plain g.space h.0, small_plain g.ordinal h.1) refl
call_plain End h = refl
call_plain (Draw n) h = rw (small_plain n h) refl

-- READ AGAIN

no_sign : (b : ℕ) → is_ascii_digit b ≡ true → (b == 61) ≡ false
no_sign b h = grind (arith, nat_tests)

not_equals : (n : ℕ) → n < 2 ^ 64 → is_equals (decimal n) ≡ false
not_equals n h = not_sign (decimal n) (digits_decimal n h) where
  not_sign : (w : List ℕ) → list_all is_ascii_digit w ≡ true → is_equals w ≡ false
  not_sign [] k = refl
  not_sign (b ∷ w) k = ap (λ (t : Bool). t && bytes_eq w []) (no_sign b (both (is_ascii_digit b) (list_all is_ascii_digit w) k).0)

no_pending : (call : Call) → fits call Pending ≡ true → ⊥
no_pending Begin f = false≢true f
no_pending (Preempt target) f = false≢true f
no_pending (Select s t) f = false≢true f
no_pending (Reject s o) f = false≢true f
no_pending (Renew g t) f = false≢true f
no_pending (Answer p x t) f = false≢true f
no_pending (Lose p loss) f = false≢true f
no_pending (Take p) f = false≢true f
no_pending (Note g) f = false≢true f
no_pending End f = false≢true f
no_pending (Draw n) f = false≢true f

no_drawn : (m e : ℕ) (call : Call) → fits call (Drawn m e) ≡ true → ⊥
no_drawn m e Begin f = false≢true f
no_drawn m e (Preempt target) f = false≢true f
no_drawn m e (Select s t) f = false≢true f
no_drawn m e (Reject s o) f = false≢true f
no_drawn m e (Renew g t) f = false≢true f
no_drawn m e (Answer p x t) f = false≢true f
no_drawn m e (Lose p loss) f = false≢true f
no_drawn m e (Take p) f = false≢true f
no_drawn m e (Note g) f = false≢true f
no_drawn m e End f = false≢true f
no_drawn m e (Draw n) f = false≢true f

reply_again : (reply : BookReply) → ReplyHolds reply → (call : Call) → fits call reply ≡ true → reply_of (reply_names reply) ≡ reply
reply_again Begun h call f = refl
reply_again (Ready g o e) h call f = rw (small_again g.space h.0.0, small_again g.ordinal h.0.1, small_again o h.1, small_again e h.2) refl
reply_again Nothing h call f = refl
reply_again (Url g e) h call f = rw (small_again g.space h.0.0, small_again g.ordinal h.0.1, small_again e h.1) refl
reply_again (Cached g) h call f = rw (small_again g.space h.0, small_again g.ordinal h.1) refl
reply_again Default h call f = refl
reply_again (Follow p) h call f = rw (small_again p h) refl
reply_again (Lead p o) h call f = rw (small_again p h.0, small_again o h.1) refl
reply_again Removed h call f = refl
reply_again (Kept o) h call f = rw (small_again o h) refl
reply_again Renewed h call f = refl
reply_again (Given g e) h call f = rw (small_again g.space h.0.0, small_again g.ordinal h.0.1, small_again e h.1) refl
reply_again Cancelled h call f = refl
reply_again (Lost (Fault n)) h call f = rw (count_again n h) refl
reply_again (Lost Memory) h call f = refl
reply_again Pending h call f = absurd (no_pending call f)
reply_again (Gave g) h call f = rw (small_again g.space h.0, small_again g.ordinal h.1) refl
reply_again Noted h call f = refl
reply_again Ended h call f = refl
reply_again (Drawn n e) h call f = absurd (no_drawn n e call f)

reply_plain : (reply : BookReply) → ReplyHolds reply → (call : Call) → fits call reply ≡ true → all_plain (reply_names reply) ≡ true
reply_plain Begun h call f = refl
reply_plain (Ready g o e) h call f = rw (small_plain g.space h.0.0, small_plain g.ordinal h.0.1, small_plain o h.1, small_plain e h.2) refl
reply_plain Nothing h call f = refl
reply_plain (Url g e) h call f = rw (small_plain g.space h.0.0, small_plain g.ordinal h.0.1, small_plain e h.1) refl
reply_plain (Cached g) h call f = rw (small_plain g.space h.0, small_plain g.ordinal h.1) refl
reply_plain Default h call f = refl
reply_plain (Follow p) h call f = rw (small_plain p h) refl
reply_plain (Lead p o) h call f = rw (small_plain p h.0, small_plain o h.1) refl
reply_plain Removed h call f = refl
reply_plain (Kept o) h call f = rw (small_plain o h) refl
reply_plain Renewed h call f = refl
reply_plain (Given g e) h call f = rw (small_plain g.space h.0.0, small_plain g.ordinal h.0.1, small_plain e h.1) refl
reply_plain Cancelled h call f = refl
reply_plain (Lost loss) h call f = loss_plain loss h
reply_plain Pending h call f = refl
reply_plain (Gave g) h call f = rw (small_plain g.space h.0, small_plain g.ordinal h.1) refl
reply_plain Noted h call f = refl
reply_plain Ended h call f = refl
reply_plain (Drawn n e) h call f = absurd (no_drawn n e call f)

pub entry_plain : (entry : Entry) → EntryHolds entry → fits entry.call entry.reply ≡ true → all_plain (entry_words entry) ≡ true
entry_plain entry h fit =
    rw (
      small_plain entry.caller h.caller,
      small_plain entry.request h.request,
      list_all-append plain (call_names entry.call) (codes "=" ∷ reply_names entry.reply),
      call_plain entry.call h.call,
      reply_plain entry.reply h.reply entry.call fit,
    )
    refl

small_not : (n : ℕ) → n < 2 ^ 32 → is_equals (decimal n) ≡ false
small_not n h = not_equals n (omega (arith, h))

-- the words of a call are read as that call, and what stands behind `=` is the rest
abbrev heads : ℕ → ℕ → Call → List (List ℕ) → List (List ℕ)
heads c r call more = codes "e" ∷ decimal c ∷ decimal r ∷ call_names call ++ (codes "=" ∷ more)

call_again : (c r : ℕ) (call : Call) (more : List (List ℕ)) → CallHolds call → (reply : BookReply) → fits call reply ≡ true → call_of (heads c r call more) ≡ call
call_again c r Begin more h reply f = refl
call_again c r (Preempt target) more h reply f = rw (target_again target) refl
call_again c r (Select s o) more h reply f = rw (small_again s h.0, small_again o h.1) refl
call_again c r (Reject s o) more h reply f = rw (small_again s h.0, small_again o h.1) refl
call_again c r (Renew g o) more h reply f = rw (small_again g.space h.0.0, small_again g.ordinal h.0.1, small_again o h.1) refl
call_again c r (Answer p x o) more h reply f = rw (small_again p h.0, small_again x h.1, small_again o h.2) refl
call_again c r (Lose p (Fault n)) more h reply f = rw (small_again p h.0, count_again n h.1) refl
call_again c r (Lose p Memory) more h reply f = rw (small_again p h.0) refl
call_again c r (Take p) more h reply f = rw (small_again p h) refl
call_again c r (Note g) more h reply f = rw (small_again g.space h.0, small_again g.ordinal h.1) refl
call_again c r End more h reply f = refl
call_again c r (Draw n) more h reply f = absurd (no_draw n reply f) where
  no_draw : (n : ℕ) (reply : BookReply) → fits (Draw n) reply ≡ true → ⊥
  no_draw n reply f = false≢true f

target_not : (target : Target) → is_equals (target_name target) ≡ false
target_not Server = refl
target_not Proxy = refl
target_not Socks = refl

behind_again : (c r : ℕ) (call : Call) (more : List (List ℕ)) → c < 2 ^ 32 → r < 2 ^ 32 → CallHolds call → behind_equals (heads c r call more) ≡ more
behind_again c r Begin more hc hr h = rw (small_not c hc, small_not r hr) refl
behind_again c r (Preempt target) more hc hr h = rw (small_not c hc, small_not r hr, target_not target) refl
behind_again c r (Select s o) more hc hr h = rw (small_not c hc, small_not r hr, small_not s h.0, small_not o h.1) refl
behind_again c r (Reject s o) more hc hr h = rw (small_not c hc, small_not r hr, small_not s h.0, small_not o h.1) refl
behind_again c r (Renew g o) more hc hr h = rw (small_not c hc, small_not r hr, small_not g.space h.0.0, small_not g.ordinal h.0.1, small_not o h.1) refl
behind_again c r (Answer p x o) more hc hr h = rw (small_not c hc, small_not r hr, small_not p h.0, small_not x h.1, small_not o h.2) refl
behind_again c r (Lose p (Fault n)) more hc hr h = rw (small_not c hc, small_not r hr, small_not p h.0, not_equals n h.1) refl
behind_again c r (Lose p Memory) more hc hr h = rw (small_not c hc, small_not r hr, small_not p h.0) refl
behind_again c r (Take p) more hc hr h = rw (small_not c hc, small_not r hr, small_not p h) refl
behind_again c r (Note g) more hc hr h = rw (small_not c hc, small_not r hr, small_not g.space h.0, small_not g.ordinal h.1) refl
behind_again c r End more hc hr h = rw (small_not c hc, small_not r hr) refl
behind_again c r (Draw n) more hc hr h = rw (small_not c hc, small_not r hr, small_not n h) refl

form_again : (entry : Entry) → EntryHolds entry → fits entry.call entry.reply ≡ true → entry_form (codes "e" ∷ entry_words entry) ≡ entry
form_again entry h fit =
    rw (
      small_again entry.caller h.caller,
      small_again entry.request h.request,
      call_again entry.caller entry.request entry.call (reply_names entry.reply) h.call entry.reply fit,
      behind_again entry.caller entry.request entry.call (reply_names entry.reply) h.caller h.request h.call,
      reply_again entry.reply h.reply entry.call fit,
    )
    refl

pub entry_again : (entry : Entry) → EntryHolds entry → fits entry.call entry.reply ≡ true → entry_at (entry_line entry) ≡ Some entry
entry_again entry h fit =
    let ws = ap words (line_is entry) ∙ words_again (codes "e") (entry_words entry) refl (entry_plain entry h fit) in
    ap (λ (vs : List (List ℕ)). if_fits (entry_form vs) >>= if_written entry_line (entry_line entry)) ws
    ∙ ap (λ (e : Entry). if_fits e >>= if_written entry_line (entry_line entry)) (form_again entry h fit)
    ∙ rw fit (taken entry_line entry)
