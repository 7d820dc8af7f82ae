use Rattle.std.proofs.Common.{◌≡◌, ℕ, ◌+◌, ◌-◌, ◌<◌, Bool, true, cond, List, [], ◌∷◌, length, take, Option, None, ap, ◌∙◌, arith}
use Rattle.std.specs.Prelude.{nat_le}
use Rattle.std.proofs.lemmas.Bool.Decides.{nat_tests}
use Rattle.std.proofs.lemmas.List.{take_all}
use Rattle.spaces.specs.declared.roster.Method.{Method}
use Rattle.wire_head.specs.declared.progress.Progress.{Progress}
use Rattle.wire_head.specs.declared.progress.Progress.TheVariants.{Open, Whole, Fault}
use Rattle.wire_head.specs.declared.reply.WireFault.TheVariants.{HeadTooLong}
use Rattle.httparse.proofs.OnLiterals.{httparse_on_literals}
use Rattle.wire_head.specs.Lines.{head_len}
use Rattle.wire_head.specs.Rows.{ok}
use Rattle.wire_head.specs.Replies.{progress, heads, first_head, is_too_long, front_len, by_front}
use Rattle.wire_head.proofs.OpenTexts.{undecided_short}
use Rattle.wire_head.proofs.laws.limits.Goals as goal

too_long : (text : List ℕ) → 65536 < length text → is_too_long 0 text ≡ true
too_long text long = grind (arith, nat_tests)

head_first : (method : Method) (text : List ℕ) (next : Progress) → head_len text ≡ None → 65536 < length text
    → first_head method 0 text next ≡ Fault HeadTooLong
head_first method text next none long =
    ap (λ (n : Option ℕ). cond (is_too_long 0 (take (front_len n text) text)) (Fault HeadTooLong) (by_front method 0 (head_len text) text next)) none
    ∙ ap (λ (t : List ℕ). cond (is_too_long 0 t) (Fault HeadTooLong) (by_front method 0 (head_len text) text next)) (take_all (length text) text (omega arith))
    ∙ ap (λ (b : Bool). cond b (Fault HeadTooLong) (by_front method 0 (head_len text) text next)) (too_long text long)

head_limit : (method : Method) (text : List ℕ) → head_len text ≡ None → 65536 < length text → progress method text ≡ Fault HeadTooLong
head_limit method [] none long = absurd (omega arith)
head_limit method (b ∷ text) none long =
    head_first method (b ∷ text) (heads method (0 + 1) (front_len (head_len (b ∷ text)) (b ∷ text) - 1) text) none long

pub returns-clause-head : goal.returns-clause-head
returns-clause-head c = head_limit

pub returns-clause-body : goal.returns-clause-body
unfolding httparse_on_literals
returns-clause-body c text len =
    ap (λ (n : ℕ). cond (nat_le 1048576 n) (Whole (ok true 1048576) 1048620) (Open None)) len

pub returns-clause-undecided : goal.returns-clause-undecided
returns-clause-undecided c = undecided_short
