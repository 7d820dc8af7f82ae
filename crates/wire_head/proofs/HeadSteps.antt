-- What the bytes of a piece do within a head.
use Rattle.std.proofs.Common.{◌≡◌, ℕ, ◌+◌, ◌-◌, ◌<◌, ◌≤◌, Bool, true, false, cond, List, ◌++◌, length, take, drop, Option, Some, None, refl, sym, ap, subst, ◌∙◌, arith, append_assoc, length-append}
use Rattle.std.specs.Prelude.{nat_lt, min}
use Rattle.std.proofs.lemmas.Bool.Decides.{nat_tests}
use Rattle.std.proofs.lemmas.List.{take-append-drop, take-append-le, length-take-le}
use Rattle.std.proofs.Math.Seq.{take-append-add, take-append_seam}
use Rattle.spaces.specs.declared.roster.Method.{Method}
use Rattle.wire_head.specs.declared.progress.Progress.TheVariants.{Fault}
use Rattle.wire_head.specs.declared.reply.WireFault.TheVariants.{HeadTooLong}
use Rattle.wire_head.specs.declared.state.Next.{Next}
use Rattle.wire_head.specs.declared.state.Next.TheVariants.{On, Over}
use Rattle.wire_head.specs.declared.state.State.TheVariants.{InHead}
use Rattle.wire_head.specs.Lines.{head_len}
use Rattle.wire_head.specs.Replies.{heads, is_too_long}
use Rattle.wire_head.specs.ResponseHeads.{reply_head}
use Rattle.wire_head.specs.ReadingStates.{went, by_parsed, IsState, IsNext, IsNextAt}
use Rattle.wire_head.specs.ReadingRuns.{unended_head, ended_head, IsStepped}
use Rattle.wire_head.proofs.HeadLengthLemmas.{head_more, head_within, head_local}
use Rattle.wire_head.proofs.ProgressLemmas.{done_step}
use Rattle.wire_head.proofs.OpenTexts.{within_limit}
use Rattle.wire_head.proofs.RunLemmas.{parsed_keeps}
use Rattle.wire_head.proofs.StateLemmas.{parsed_step, too_long_front, short_of}
use Rattle.wire_head.proofs.UsedLemmas.{parsed_at}

-- a text with no blank line has its first one behind, if more bytes make one
past_front : (front more : List ℕ) (n : ℕ) → head_len front ≡ None → head_len (front ++ more) ≡ Some n → length front < n
past_front front more n none some = by_test (nat_lt (length front) n) refl
  where
    by_test : (x : Bool) → nat_lt (length front) n ≡ x → length front < n
    by_test true is = grind (arith, nat_tests)
    by_test false is =
        let inside : n ≤ length front = grind (arith, nat_tests) in
        let no : ◌≡◌ {A = Option ℕ} None (Some n) = sym none ∙ head_local front more n some inside in
        cc no

-- the front with some bytes of the text, and the others
split_text : (front text more : List ℕ) (n : ℕ) → front ++ (text ++ more) ≡ (front ++ take n text) ++ (drop n text ++ more)
split_text front text more n =
    ap (λ (xs : List ℕ). front ++ (xs ++ more)) (sym (take-append-drop n text))
    ∙ ap (λ (xs : List ℕ). front ++ xs) (append_assoc (take n text) (drop n text) more)
    ∙ sym (append_assoc front (take n text) (drop n text ++ more))

same_some : (m n : ℕ) → Some m ≡ Some n → m ≤ n
same_some m n is = let same : m ≡ n = cc in omega arith

-- NO BLANK LINE YET

unended_shows : (method : Method) (at : ℕ) (front t : List ℕ) (x : Bool) → head_len front ≡ None → at ≤ 65536 → is_too_long at front ≡ x
    → heads method at 0 (front ++ t) ≡ went method (cond x (Over (Fault HeadTooLong)) (On (InHead at front))) t
unended_shows method at front t true none few long =
    done_step method at (front ++ t) (Fault HeadTooLong) few
    (λ then_. too_long_front method at front t then_ (λ k some. let past = past_front front t k none some in omega (arith, past)) long)
unended_shows method at front t false none few short = refl

unended_is : (at : ℕ) (front : List ℕ) (x : Bool) → head_len front ≡ None → is_too_long at front ≡ x
    → IsNext (cond x (Over (Fault HeadTooLong)) (On (InHead at front)))
unended_is at front true none long = refl
unended_is at front false none short = (none, short)

unended_at : (at k : ℕ) (front : List ℕ) (x : Bool) → at + length front ≡ k → IsNextAt (cond x (Over (Fault HeadTooLong)) (On (InHead at front))) k
unended_at at k front true here = (tt, refl)
unended_at at k front false here = here

pub head_on : (method : Method) (at : ℕ) (front text : List ℕ) (n : ℕ) → IsState (InHead at front) → 0 < n → n ≤ length text
    → head_len (front ++ take n text) ≡ None
    → IsStepped method (InHead at front) text (record { used = n; next = unended_head at (front ++ take n text) })
head_on method at front text n is some within none =
    let later = front ++ take n text in
    let x = is_too_long at later in
    let size = length-append front (take n text) in
    let taken = length-take-le n text within in record {
      some = some;
      within = within;
      is = unended_is at later x none refl;
      at = λ k here. unended_at at (k + n) later x (omega (arith, size, taken, here));
      shows = λ more.
          ap (heads method at 0) (split_text front text more n)
          ∙ unended_shows method at later (drop n text ++ more) x none (short_of at front is.1) refl;
    }

-- THE BLANK LINE

ended_shows : (method : Method) (at : ℕ) (front t : List ℕ) (x : Bool) → head_len front ≡ Some (length front) → at ≤ 65536 → is_too_long at front ≡ x
    → heads method at 0 (front ++ t) ≡ went method (cond x (Over (Fault HeadTooLong)) (by_parsed method (at + length front) (reply_head front))) t
ended_shows method at front t true some few long =
    done_step method at (front ++ t) (Fault HeadTooLong) few
    (λ then_. too_long_front method at front t then_
    (λ k is. same_some (length front) k (sym (head_more front t (length front) some) ∙ is)) long)
ended_shows method at front t false some few short = parsed_step method at front t (reply_head front) some short refl

ended_is : (method : Method) (at : ℕ) (front : List ℕ) (x : Bool) → is_too_long at front ≡ x
    → IsNext (cond x (Over (Fault HeadTooLong)) (by_parsed method (at + length front) (reply_head front)))
ended_is method at front true long = refl
ended_is method at front false short = parsed_keeps method at (length front) front (reply_head front) (omega arith) short refl

ended_at : (method : Method) (at : ℕ) (front : List ℕ) (x : Bool)
    → IsNextAt (cond x (Over (Fault HeadTooLong)) (by_parsed method (at + length front) (reply_head front))) (at + length front)
ended_at method at front true = (tt, refl)
ended_at method at front false = parsed_at method (at + length front) (reply_head front)

-- the head's bytes are the front and some of the text
head_bytes : (front text : List ℕ) (room n : ℕ) → room ≤ length text → length front < n → n ≤ length (front ++ take room text)
    → take n (front ++ take room text) ≡ front ++ take (n - length front) text
head_bytes front text room n within past inside =
    let size = length-append front (take room text) in
    let taken = length-take-le room text within in
    let same : n ≡ length front + (n - length front) = omega (arith, past) in
    ap (λ (k : ℕ). take k (front ++ take room text)) same
    ∙ take-append-add front (take room text) (n - length front)
    ∙ ap (λ (xs : List ℕ). front ++ xs)
    (sym (take-append-le (n - length front) (take room text) (drop room text) (omega (arith, size, taken, inside)))
    ∙ ap (take (n - length front)) (take-append-drop room text))

pub head_over : (method : Method) (at : ℕ) (front text : List ℕ) (room n : ℕ) → IsState (InHead at front) → room ≤ length text
    → head_len (front ++ take room text) ≡ Some n
    → IsStepped method (InHead at front) text (record { used = n - length front; next = ended_head method at (take n (front ++ take room text)) })
head_over method at front text room n is within some =
    let all = front ++ take room text in
    let last = take n all in
    let inside = (head_within all n some).1 in
    let past = past_front front (take room text) n is.0 some in
    let size = length-append front (take room text) in
    let taken = length-take-le room text within in
    let len = length-take-le n all inside in
    let bytes = head_bytes front text room n within past inside in
    let ends : head_len last ≡ Some n = head_local last (drop n all) n (ap head_len (take-append-drop n all) ∙ some) (omega (arith, len)) in
    let ends_here : head_len last ≡ Some (length last) = ends ∙ ap (λ (k : ℕ). Some k) (sym len) in
    let x = is_too_long at last in record {
      some = omega (arith, past);
      within = omega (arith, past, size, taken, inside, within);
      is = ended_is method at last x refl;
      at = λ k here. subst (IsNextAt (ended_head method at last)) (omega (arith, past, len, here)) (ended_at method at last x);
      shows = λ more.
          ap (heads method at 0) (split_text front text more (n - length front) ∙ ap (λ (xs : List ℕ). xs ++ (drop (n - length front) text ++ more)) (sym bytes))
          ∙ ended_shows method at last (drop (n - length front) text ++ more) x ends_here (short_of at front is.1) refl;
    }

-- how many bytes are taken: one at least, and one past the limit at most
pub room_some : (at len some used : ℕ) (front text : List ℕ) → IsState (InHead at front) → 0 < length text → len ≡ length front
    → some ≡ min (length text) 2048 → used ≡ min some (65537 - (at + len)) → (0 < used) × (used ≤ length text)
room_some at len some used front text is bytes size is_some is_used =
    let few = within_limit at front is.1 in
    (omega (arith, few, bytes, size, is_some, is_used), omega (arith, is_some, is_used))

pub head_on_by : (method : Method) (at : ℕ) (front text taken later : List ℕ) (n : ℕ) (next : Next) → IsState (InHead at front)
    → (0 < n) × (n ≤ length text) → taken ≡ take n text → later ≡ front ++ taken → head_len later ≡ None → next ≡ unended_head at later
    → IsStepped method (InHead at front) text (record { used = n; next = next })
head_on_by method at front text taken later n next is room takes joins none is_next =
    let same : later ≡ front ++ take n text = joins ∙ ap (λ (xs : List ℕ). front ++ xs) takes in
    subst (λ x. IsStepped method (InHead at front) text (record { used = n; next = x })) (sym (is_next ∙ ap (unended_head at) same))
    (head_on method at front text n is room.0 room.1 (sym (ap head_len same) ∙ none))

pub head_over_by : (method : Method) (at : ℕ) (front text taken later last : List ℕ) (before room n : ℕ) (next : Next) → IsState (InHead at front)
    → room ≤ length text → taken ≡ take room text → later ≡ front ++ taken → head_len later ≡ Some n → last ≡ take n later
    → before ≡ length front → next ≡ ended_head method at last
    → IsStepped method (InHead at front) text (record { used = n - before; next = next })
head_over_by method at front text taken later last before room n next is within takes joins some is_last is_before is_next =
    let same : later ≡ front ++ take room text = joins ∙ ap (λ (xs : List ℕ). front ++ xs) takes in
    subst (λ x. IsStepped method (InHead at front) text (record { used = n - before; next = x }))
    (sym (is_next ∙ ap (ended_head method at) (is_last ∙ ap (take n) same)))
    (subst (λ k. IsStepped method (InHead at front) text (record { used = n - k; next = ended_head method at (take n (front ++ take room text)) }))
    (sym is_before) (head_over method at front text room n is within (sym (ap head_len same) ∙ some)))

pub head_past : (front taken later : List ℕ) (n : ℕ) → head_len front ≡ None → later ≡ front ++ taken → head_len later ≡ Some n → length front < n
head_past front taken later n none joins some = past_front front taken n none (sym (ap head_len joins) ∙ some)

-- the front has no blank line, so none ends within so many first bytes of what it grew to
pub front_none : (front taken later seen : List ℕ) (before : ℕ) → head_len front ≡ None → before ≡ length front → later ≡ front ++ taken → seen ≡ later
    → (before ≤ length seen) × (head_len (take before seen) ≡ None)
front_none front taken later seen before none is_before joins same =
    let all : seen ≡ front ++ taken = same ∙ joins in
    let size = ap length all ∙ length-append front taken in (
      omega (arith, size, is_before),
      ap (λ (xs : List ℕ). head_len (take before xs)) all ∙ ap (λ (n : ℕ). head_len (take n (front ++ taken))) is_before
          ∙ ap head_len (take-append_seam front taken) ∙ none,
    )

pub front_short : (at before : ℕ) (front taken later : List ℕ) → is_too_long at front ≡ false → before ≡ length front → later ≡ front ++ taken
    → (before ≤ length later) × (is_too_long at (take before later) ≡ false)
front_short at before front taken later short is_before joins =
    let size = ap length joins ∙ length-append front taken in (
      omega (arith, size, is_before),
      ap (λ (xs : List ℕ). is_too_long at (take before xs)) joins ∙ ap (λ (n : ℕ). is_too_long at (take n (front ++ taken))) is_before
          ∙ ap (is_too_long at) (take-append_seam front taken) ∙ short,
    )
